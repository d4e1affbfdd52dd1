use Rattle.std.proofs.Common.{◌≡◌, sum_by, take}
use Rattle.tree_nodes.proofs.walked.count_of.Given as goal

abbrev pub invariant-loop-node : goal.invariant-loop-node
invariant-loop-node g l = l.count ≡ sum_by g.N.Walked.size (take l.node-index l.nodes)
