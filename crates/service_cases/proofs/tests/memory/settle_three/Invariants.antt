use Rattle.std.proofs.Common.{◌≡◌}
use Rattle.service_cases.proofs.tests.memory.settle_three.Given as goal

abbrev pub invariant-loop-reports : goal.invariant-loop-reports
invariant-loop-reports g l = l.pass.number ≡ l.initial.pass.number
