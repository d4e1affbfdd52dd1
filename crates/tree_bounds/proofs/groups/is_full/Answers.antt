use Rattle.std.proofs.Common.{◌≡◌, ℕ, ◌∙◌}
use Rattle.policy_tree.specs.States.{cluster_meaning}
use Rattle.policy_tree.specs.Trees.{value_in}
use Rattle.tree_bounds.proofs.OfGroup.{group-value}
use Rattle.tree_bounds.proofs.groups.is_full.Goals as goal

pub returns : goal.returns
returns c told =
    let tree = c.args.tree.now in
    let same : (share : ℕ) → value_in c.args.tree.now c.args.group share ≡ cluster_meaning c.cluster.result.now share =
    group-value tree c.args.group c.cluster.result.now c.cluster.ensures in
    same c.args.share ∙ c.is_cluster_full.ensures told tree.top c.requires.within (c.requires.most ∙ same tree.top)
