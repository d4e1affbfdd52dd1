use Rattle.std.proofs.Common.{◌≡◌, take, sum_by}
use Rattle.policy_tree.proofs.childless.tasks_of.Given as goal

abbrev pub invariant-loop-node : goal.invariant-loop-node
invariant-loop-node g l = l.tasks ≡ sum_by g.N.Counted.weights (take l.node-index l.nodes)
