use Rattle.std.proofs.Common.{take}
use Rattle.plain_table.specs.Reported.{reported_in, reported_with}
use Rattle.plain_table.specs.Scripts.{IsAfterScript}
use Rattle.plain_table.proofs.script.take_in_all.Given as goal

abbrev pub invariant-loop-report : goal.invariant-loop-report
invariant-loop-report l =
    IsAfterScript (reported_in l.initial.tree l.initial.topology 0)
    (reported_with l.tree l.topology l.initial.topology.capacities l.report-index)
    (take l.report-index l.script)
