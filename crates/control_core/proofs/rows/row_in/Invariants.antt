use Rattle.std.proofs.Common.{◌≡◌, map, take}
use Rattle.control_core.proofs.rows.row_in.Given as goal

abbrev pub invariant-loop-task : goal.invariant-loop-task
invariant-loop-task g l = l.row.items ≡ map (λ task. g.T.Posted.limit_at l.table task) (take l.task-index l.tasks)
