use Rattle.std.proofs.Common.{◌≡◌, ℕ, ◌<◌, length, get_or, take, sum_by}
use Rattle.policy_tree.specs.Asked.{cluster_weights}
use Rattle.policy_tree.proofs.childless.firsts_of.Given as goal

abbrev pub invariant-loop-cluster : goal.invariant-loop-cluster
invariant-loop-cluster l = record {
  size : length l.firsts.items ≡ l.cluster-index;
  first : l.first ≡ sum_by cluster_weights (take l.cluster-index l.clusters);
  each : (group : ℕ) → group < l.cluster-index → get_or l.firsts.items group 0 ≡ sum_by cluster_weights (take group l.clusters);
}
