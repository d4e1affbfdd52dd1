use Rattle.std.proofs.Common.{length, ap, sym, ◌∙◌, arith}
use Rattle.policy_tree.specs.Trees.{Tree}
use Rattle.policy_tree.specs.Walk.{walk}
use Rattle.policy_tree.proofs.Sizes.{walk-size}
use Rattle.tree_nodes.proofs.nodes.PolicyTreeNodeNumbers.nodes.Goals as goal

pub count_of-requires : goal.count_of-requires
count_of-requires c = omega (arith, walk-size c.clusters.result.now, c.clusters.ensures.nodes)

pub returns : goal.returns
returns c =
    c.count_of.ensures
    ∙ sym (walk-size c.clusters.result.now)
    ∙ ap (λ (tree : Tree). length (walk tree.clusters)) c.clusters.ensures.made
