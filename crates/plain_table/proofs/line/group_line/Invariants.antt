use Rattle.std.proofs.Common.{◌≡◌, map}
use Rattle.bwe_specs.specs.Reports.{numbers}
use Rattle.plain_table.specs.Lines.{line_of_place}
use Rattle.plain_table.proofs.line.group_line.Given as goal

abbrev pub invariant-loop-place : goal.invariant-loop-place
invariant-loop-place l = l.places.items ≡ map (line_of_place l.plan l.closings l.group l.amounts) (numbers l.place)
