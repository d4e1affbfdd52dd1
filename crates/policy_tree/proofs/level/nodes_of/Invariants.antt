use Rattle.std.proofs.Common.{◌≡◌, map, All}
use Rattle.policy_tree.proofs.level.nodes_of.Given as goal

abbrev pub invariant-loop-spec : goal.invariant-loop-spec
invariant-loop-spec g l = record {
  idle : l.nodes.items ≡ map g.N.LevelNode.idle l.yielded;
  are : All g.N.LevelNode.IsState l.nodes.items;
}
