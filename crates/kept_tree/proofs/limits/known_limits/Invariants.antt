use Rattle.std.proofs.Common.{◌≡◌, flat_map, take, zip}
use Rattle.kept_tree.specs.Known.{AreKnown}
use Rattle.bwe_specs.specs.Tree.{cluster_limits}
use Rattle.policy_tree.specs.Trees.{demand_in}
use Rattle.kept_tree.proofs.limits.known_limits.Given as goal

abbrev pub invariant-loop-group : goal.invariant-loop-group
invariant-loop-group l = record {
  limits : l.limits.items ≡ flat_map (λ given. cluster_limits l.tree.top (demand_in l.tree) given.0 given.1) (take l.group (zip l.tree.clusters l.amounts));
  known : AreKnown l.tree l.known;
}
