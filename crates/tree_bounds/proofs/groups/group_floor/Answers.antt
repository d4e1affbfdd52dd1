use Rattle.std.proofs.Common.{◌≡◌, ℕ, ◌∙◌, arith}
use Rattle.policy_tree.specs.States.{cluster_meaning}
use Rattle.policy_tree.specs.Trees.{value_in}
use Rattle.tree_bounds.proofs.OfGroup.{group-value}
use Rattle.tree_bounds.proofs.groups.group_floor.Goals as goal

pub returns : goal.returns
returns c =
    let tree = c.args.tree.now in
    let same : (share : ℕ) → value_in c.args.tree.now c.args.group share ≡ cluster_meaning c.cluster-cluster.result.now share =
    group-value tree c.args.group c.cluster-cluster.result.now c.cluster-cluster.ensures in
    omega (arith, same c.args.share, c.cluster_floor.ensures tree.top (c.requires.most ∙ same tree.top))
