use Rattle.std.proofs.Common.{List, length, take, ap, sym, ◌∙◌, arith}
use Rattle.std.proofs.lemmas.List.{length-take-le}
use Rattle.std.proofs.lemmas.List.Sums.{sum_by-take-le}
use Rattle.bwe_specs.specs.Tree.{Cluster}
use Rattle.policy_tree.specs.States.{cluster_tasks}
use Rattle.policy_tree.specs.Numbering.{numbered_cluster}
use Rattle.policy_tree.specs.Sizes.{cluster_size}
use Rattle.policy_tree.specs.Trees.{Tree}
use Rattle.policy_tree.specs.Walk.{walk}
use Rattle.policy_tree.proofs.Numbers.{take-numbered}
use Rattle.policy_tree.proofs.Sizes.{walk-size}
use Rattle.policy_tree.proofs.TreeFacts.{length-clusters}
use Rattle.tree_nodes.specs.Seen.{group_node_in}
use Rattle.tree_nodes.proofs.nodes.PolicyTreeNodeNumbers.group_node.Goals as goal

pub slice_bounds-count_of-end : goal.slice_bounds-count_of-end
slice_bounds-count_of-end c =
    let e = length-clusters _ _ _ c.clusters.ensures.made in
    sym (length-take-le c.args.group c.clusters.result.now (omega (arith, e, c.requires)))

pub count_of-requires : goal.count_of-requires
count_of-requires c =
    let clusters = c.clusters.result.now in
    omega (arith, sum_by-take-le cluster_size clusters c.args.group, walk-size clusters, c.clusters.ensures.nodes)

pub returns : goal.returns
returns c =
    let clusters = c.clusters.result.now in
    c.count_of.ensures
    ∙ sym (walk-size (take c.args.group clusters))
    ∙ sym (ap (λ (numbered : List Cluster). length (walk numbered)) (take-numbered cluster_tasks numbered_cluster 0 clusters c.args.group))
    ∙ ap (λ (tree : Tree). group_node_in tree c.args.group) c.clusters.ensures.made
