use Rattle.std.proofs.Common.{◌≡◌, ◌+◌, map, sum_by, take}
use Rattle.tree_nodes.specs.Children.{numbers_from}
use Rattle.tree_nodes.proofs.walked.numbers_of.Given as goal

abbrev pub invariant-loop-node : goal.invariant-loop-node
invariant-loop-node g l = record {
  next : l.next ≡ l.first + sum_by g.N.Walked.size (take l.node-index l.nodes);
  numbers : l.numbers.items ≡ numbers_from l.first (map g.N.Walked.size (take l.node-index l.nodes));
}
