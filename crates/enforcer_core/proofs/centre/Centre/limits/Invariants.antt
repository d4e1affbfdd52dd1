use Rattle.std.proofs.Common.{◌≡◌, map, take}
use Rattle.enforcer_core.proofs.centre.Centre.limits.Given as goal

abbrev pub invariant-loop-task : goal.invariant-loop-task
invariant-loop-task g l = l.limits.items ≡ map (λ task. g.T.Posted.limit_at l.self.posted task) (take l.task-index l.tasks)
