use Rattle.std.proofs.Common.{◌≡◌, replicate}
use Rattle.control_core.specs.World.{fresh}
use Rattle.control_core.proofs.control.fresh_allocators.Given as goal

abbrev pub invariant-loop : goal.invariant-loop
invariant-loop l = l.allocators.items ≡ replicate l.counter fresh
