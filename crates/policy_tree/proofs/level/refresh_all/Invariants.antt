use Rattle.std.proofs.Common.{◌≡◌}
use Rattle.policy_tree.proofs.level.refresh_all.Given as goal

abbrev pub invariant-loop-node : goal.invariant-loop-node
invariant-loop-node g l = l.nodes ≡ l.fn.nodes
