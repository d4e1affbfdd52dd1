use Rattle.std.proofs.Common.{◌≡◌, ◌++◌, flat_map, string_bytes}
use Rattle.bwe_specs.specs.Reports.{numbers}
use Rattle.table_text.specs.TableText.{value_line}
use Rattle.change_text.specs.ChangeText.{changed}
use Rattle.change_text.proofs.change.push_changed_values.Given as goal

abbrev pub invariant-loop-number : goal.invariant-loop-number
invariant-loop-number l =
    string_bytes l.text ≡ string_bytes l.fn.text
    ++ flat_map (changed (value_line l.word l.between l.names l.earlier) (value_line l.word l.between l.names l.later)) (numbers l.number)
