use Rattle.std.proofs.Common.{map}
use Rattle.raw_document.specs.declared.key.DocKey.TheVariants as keys
use Rattle.raw_document.specs.declared.doc_path.PathStep.TheVariants.{Key}
use Rattle.raw_document.specs.Reading.{each, each_view}
use Rattle.raw_document.specs.Raw.{path_group_view}
use Rattle.bwe_specs.specs.Given.{path_group_of}
use Rattle.doc_passes.specs.Numbers.{path_numbers}
use Rattle.raw_document.proofs.Lists.{under_gives}
use Rattle.doc_passes.proofs.groups.path_groups_numbers.Goals as goal

pub returns : goal.returns
returns c = under_gives (each_view path_group_of) (Key keys.Paths) (each (each (path_numbers c.args.links.now) 0) 0 (map path_group_view c.args.path_groups.now)) c.each_numbers.result c.under.result c.each_numbers.ensures c.under.ensures
