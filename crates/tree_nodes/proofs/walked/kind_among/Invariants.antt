use Rattle.std.proofs.Common.{◌≡◌, ◌+◌, length, flat_map, take}
use Rattle.tree_nodes.proofs.walked.kind_among.Given as goal

abbrev pub invariant-loop-node : goal.invariant-loop-node
invariant-loop-node g l = l.place ≡ length (flat_map g.N.Walked.seen (take l.node-index l.nodes)) + l.past
