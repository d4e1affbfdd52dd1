use Rattle.std.proofs.Common.{◌≡◌}
use Rattle.enforce_run.specs.Playing.{owned_below}
use Rattle.enforce_run.proofs.regions.owned.Given as goal

abbrev pub invariant-loop-task : goal.invariant-loop-task
invariant-loop-task l = l.tasks.items ≡ owned_below l.owners l.reporter l.task
