use Rattle.std.proofs.Common.{◌≡◌, None, replicate}
use Rattle.last_reports.proofs.kept.nothing.Given as goal

abbrev pub invariant-loop : goal.invariant-loop
invariant-loop l = l.told.items ≡ replicate l.counter None
