use Rattle.std.proofs.Common.{◌≡◌, ℕ, sym, subst, nat_le, IfSome}
use Rattle.bwe_specs.specs.Bounded.{greatest_upto}
use Rattle.policy_tree.specs.States.{cluster_meaning}
use Rattle.policy_tree.specs.Trees.{value_in}
use Rattle.tree_bounds.proofs.OfGroup.{group-values}
use Rattle.tree_bounds.proofs.groups.group_last_share_within.Goals as goal

pub returns : goal.returns
returns c =
    let tree = c.args.tree.now in
    let same : value_in c.args.tree.now c.args.group ≡ cluster_meaning c.cluster.result.now =
    group-values tree c.args.group c.cluster.result.now c.cluster.ensures in
    let at_top = subst (λ top. IfSome c.last_share_within.result (λ last. last ≡ greatest_upto top (λ share. nat_le (cluster_meaning c.cluster.result.now share) c.args.amount))) c.top.ensures.top c.last_share_within.ensures.last in
    subst (λ (value : ℕ → ℕ). IfSome c.last_share_within.result (λ last. last ≡ greatest_upto c.args.tree.now.top (λ share. nat_le (value share) c.args.amount))) (sym same) at_top
