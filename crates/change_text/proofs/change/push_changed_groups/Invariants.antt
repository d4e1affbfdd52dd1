use Rattle.std.proofs.Common.{◌≡◌, ◌++◌, flat_map, string_bytes}
use Rattle.bwe_specs.specs.Reports.{numbers}
use Rattle.doc_names.specs.NameTexts.{texts_of}
use Rattle.table_text.specs.TableText.{group_lines}
use Rattle.change_text.specs.ChangeText.{changed}
use Rattle.change_text.proofs.change.push_changed_groups.Given as goal

abbrev pub invariant-loop-group : goal.invariant-loop-group
invariant-loop-group l = string_bytes l.text ≡ string_bytes l.fn.text ++ flat_map (changed (group_lines (texts_of l.names) l.earlier) (group_lines (texts_of l.names) l.later)) (numbers l.group)
