use Rattle.std.proofs.Common.{◌≡◌, map, take}
use Rattle.bwe_specs.specs.Lists.{lists_of}
use Rattle.control_core.proofs.rows.rows_in.Given as goal

abbrev pub invariant-loop-row : goal.invariant-loop-row
invariant-loop-row g l = lists_of l.rows.items ≡ map (λ row. map (λ task. g.T.Posted.limit_at l.table task) row) (take l.row-index (lists_of l.tasks))
