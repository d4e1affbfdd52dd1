use Rattle.std.proofs.Common.{◌≡◌, true, Bool, sym, ◌∙◌, subst, nat_le, IfSome, if◌then◌else◌}
use Rattle.bwe_specs.specs.Bounded.{greatest_upto}
use Rattle.policy_tree.specs.Trees.{value_in}
use Rattle.tiers.specs.Tiered.{is_in_tier}
use Rattle.tiers.proofs.values.TierValuesGroupValues.last_share_within.Goals as goal

pub returns-then-is_in_tier : goal.returns-then-is_in_tier
returns-then-is_in_tier c =
    let values = c.args.self.now in
    let is_in : is_in_tier values.tiers.now values.tier c.args.group ≡ true = sym c.is_in_tier.ensures ∙ c.if-is_in_tier.true in
    subst (λ (is_in : Bool). IfSome c.group_last_share_within.result (λ last. last ≡ greatest_upto values.tree.now.top
    (λ share. nat_le (if is_in then value_in values.tree.now c.args.group share else 0) c.args.amount)))
    (sym is_in) c.group_last_share_within.ensures
