-- What the code's numbers show.
use Rattle.std.specs.Prelude.{ℕ, List}
use Rattle.raw_document.specs.Reading.{each_view}
use Rattle.doc_passes.specs.declared.numbers.DocumentNumbers.{DocumentNumbers}
use Rattle.doc_passes.specs.declared.groups.GroupNumbers.{GroupNumbers}
use Rattle.bwe_specs.specs.Given.{Group, group_of}
use Rattle.doc_passes.specs.Numbers.{Numbers}

abbrev pub numbers_view : DocumentNumbers → Numbers
numbers_view numbers = record {
  link_owners = numbers.link_owners.items;
  groups = each_view group_of numbers.groups;
  task_owners = numbers.task_owners.items;
  script = numbers.script.items;
  closings = numbers.closings.items;
}

abbrev pub group_numbers_view : GroupNumbers → List Group × List ℕ
group_numbers_view found = (each_view group_of found.specs, found.owners.items)
