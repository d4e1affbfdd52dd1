use Rattle.std.proofs.Common.{◌≡◌, ℕ, ◌<◌, ◌≤◌, List, length, map, sum_by, replicate, All, sym, ap, subst, ◌∙◌, arith}
use Rattle.std.proofs.lemmas.List.{length-map}
use Rattle.tree_spec.specs.declared.spec.ClusterSpec.{ClusterSpec}
use Rattle.policy_tree.specs.States.{ClusterState, cluster_tasks}
use Rattle.policy_tree.specs.Asked.{idle_cluster, cluster_weights}
use Rattle.policy_tree.specs.Childless.{AreFirstsOf, clusters_of}
use Rattle.policy_tree.proofs.TreeFacts.{idle-firsts}
use Rattle.policy_tree.specs.Kept.{HaveClusterTop, AreFirsts, AreHomes, counts_of}
use Rattle.policy_tree.specs.Trees.{Tree, tree_of}
use Rattle.policy_tree.specs.Numbering.{numbered_clusters}
use Rattle.policy_tree.specs.Walk.{walk, tree_fault}
use Rattle.policy_tree.proofs.Counting.{weights-few, clusters-few, length-walk, length-task_numbers}
use Rattle.policy_tree.proofs.Idle.{idle_clusters-tasks, idle_clusters-top, idle-demands}
use Rattle.policy_tree.proofs.tree.PolicyTree.build.Goals as goal
use Rattle.policy_tree.proofs.tree.PolicyTree.build.Goals.{In_default}

few : (c : In_default) → sum_by cluster_weights c.args.spec.clusters.items ≤ 1_048_576
few c =
    weights-few c.args.spec.clusters.items
    (ap (λ (specs : List ClusterSpec). tree_fault (clusters_of specs)) (sym c.as_slice.ensures.value) ∙ sym c.fault_of.ensures ∙ c.in_default.is)

pub nodes_of-requires-clause-few : goal.nodes_of-requires-clause-few
nodes_of-requires-clause-few c = few (goal.at.nodes_of-requires-clause-few c).In_default

pub firsts_of-requires : goal.firsts_of-requires
firsts_of-requires c = subst (λ (specs : List ClusterSpec). sum_by cluster_weights specs ≤ 1_048_576) (sym c.as_slice-2.ensures.value) (few (goal.at.firsts_of-requires c).In_default)

pub invariant_of-result : goal.invariant_of-result
invariant_of-result c =
    let specs = c.args.spec.clusters.items in
    let clusters = c.in_ok-clusters.clusters.items in
    let idle : clusters ≡ map idle_cluster specs = c.in_ok-clusters.ensures.idle in
    let size = ap (λ (states : List ClusterState). length states) idle ∙ length-map specs idle_cluster in
    let count = ap (λ (states : List ClusterState). sum_by cluster_tasks states) idle ∙ idle_clusters-tasks specs in
    record {
      low = c.requires.low;
      high = c.requires.high;
      groups = omega (arith, size, clusters-few specs, length-walk specs, c.requires.nodes);
      tops = subst (All (HaveClusterTop c.args.spec.top)) (sym idle) (idle_clusters-top c.args.spec.top specs c.requires.tops);
      are = c.in_ok-clusters.ensures.are;
      few = omega (arith, count, few (goal.at.invariant_of-result c).In_default);
      tasks = subst (λ (states : List ClusterState). AreHomes (counts_of states) c.in_ok-homes.homes.items) c.as_slice-3.ensures.value c.in_ok-homes.ensures;
      starts = subst (λ (states : List ClusterState). AreFirsts (counts_of states) c.in_ok-firsts.firsts.items) (sym idle) (idle-firsts specs c.in_ok-firsts.firsts (subst (λ (list : List ClusterSpec). AreFirstsOf list c.in_ok-firsts.firsts) c.as_slice-2.ensures.value c.in_ok-firsts.ensures));
      nodes = subst (λ (states : List ClusterState). length (walk (numbered_clusters states)) < 4_294_967_296) (sym idle) c.requires.nodes;
    }

pub returns-clause-built : goal.returns-clause-built
returns-clause-built c =
    let specs = c.args.spec.clusters.items in
    ap (tree_of c.args.spec.top) c.in_ok-clusters.ensures.idle
    ∙ ap {B = Tree} (λ demands. record { top = c.args.spec.top; clusters = clusters_of specs; demands = demands })
    (idle-demands specs ∙ ap (λ (n : ℕ). replicate n 0) (idle_clusters-tasks specs ∙ sym (length-task_numbers specs)))
