use Rattle.std.proofs.Common.{◌≡◌, map}
use Rattle.bwe_specs.specs.Reports.{numbers}
use Rattle.plain_table.specs.Lines.{line_in}
use Rattle.plain_table.proofs.line.group_lines.Given as goal

abbrev pub invariant-loop-group : goal.invariant-loop-group
invariant-loop-group l = l.lines.items ≡ map (line_in l.plan l.filling) (numbers l.group)
