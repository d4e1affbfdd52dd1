use Rattle.std.proofs.Common.{◌≡◌, ◌++◌, flat_map, string_bytes}
use Rattle.bwe_specs.specs.Reports.{numbers}
use Rattle.table_text.specs.TableText.{value_line}
use Rattle.table_text.proofs.table.push_values.Given as goal

abbrev pub invariant-loop-number : goal.invariant-loop-number
invariant-loop-number l = string_bytes l.text ≡ string_bytes l.fn.text ++ flat_map (value_line l.word l.between l.names l.values) (numbers l.number)
