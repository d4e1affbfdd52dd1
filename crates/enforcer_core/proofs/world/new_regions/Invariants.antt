use Rattle.std.proofs.Common.{◌≡◌, replicate}
use Rattle.std.specs.Prelude.{None}
use Rattle.enforcer_core.proofs.world.new_regions.Given as goal

abbrev pub invariant-loop : goal.invariant-loop
invariant-loop l = l.regions.items ≡ replicate l.counter (record { floor = 0; in_force = None })
