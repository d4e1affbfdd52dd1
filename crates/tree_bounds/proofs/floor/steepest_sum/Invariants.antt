use Rattle.std.proofs.Common.{ℕ, ◌+◌, ◌≤◌, sum_by, take}
use Rattle.tree_bounds.proofs.floor.steepest_sum.Given as goal

abbrev pub invariant-loop-node : goal.invariant-loop-node
invariant-loop-node g l = (share : ℕ)
    → sum_by (λ node. g.C.ShareFunction.meaning node (share + 1)) (take l.node-index l.nodes)
    ≤ sum_by (λ node. g.C.ShareFunction.meaning node share) (take l.node-index l.nodes) + l.sum
