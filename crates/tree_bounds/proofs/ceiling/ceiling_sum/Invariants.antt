use Rattle.std.proofs.Common.{◌≤◌, sum_by, take}
use Rattle.tree_bounds.proofs.ceiling.ceiling_sum.Given as goal

abbrev pub invariant-loop-node : goal.invariant-loop-node
invariant-loop-node g l =
    sum_by (λ node. g.C.ShareFunction.meaning node l.share) (take l.node-index l.nodes) ≤ l.sum
