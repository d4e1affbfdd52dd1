use Rattle.std.proofs.Common.{flat_map, take, Ok}
use Rattle.policy_tree.specs.Childless.{IsCounted}
use Rattle.policy_tree.proofs.childless.after_all.Given as goal

abbrev pub invariant-loop-node : goal.invariant-loop-node
invariant-loop-node g l = IsCounted (Ok l.next) l.fn.first (flat_map g.N.Counted.childless (take l.node-index l.nodes))
