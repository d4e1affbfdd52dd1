use Rattle.std.proofs.Common.{◌≡◌, None, replicate}
use Rattle.control_core.proofs.tables.no_slices.Given as goal

abbrev pub invariant-loop : goal.invariant-loop
invariant-loop l = l.slices.items ≡ replicate l.counter None
