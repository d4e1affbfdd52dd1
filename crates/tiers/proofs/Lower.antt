-- Lower tiers do not see the demands of higher ones.
use Rattle.std.proofs.Common.{◌≡◌, ℕ, zero, suc, ◌+◌, ◌<◌, ◌≤◌, Bool, true, false, List, [], length, map, slice_index, slice_index_or, reverse, if◌then◌else◌, inl, inr, refl, sym, ap, ap₂, ◌∙◌, arith, zero-add}
use mathlib.Core.Path.{fun_ext}
use Rattle.std.specs.List.{range_with_len}
use Rattle.std.proofs.lemmas.Bool.{cases_lt, and_parts, ltb-true, eqb-true}
use Rattle.std.proofs.lemmas.List.{get_or_past}
use Rattle.std.proofs.lemmas.List.FromFn.{length-map-range_with_len, get_or-map-range_with_len}
use Rattle.bwe_specs.specs.Filling.{Wan, State, filling, group_amount}
use Rattle.bwe_specs.specs.Reports.{numbers}
use Rattle.bwe_specs.specs.Tree.{cluster_limits}
use Rattle.bwe_specs.specs.Allocation.{Plan, group_line, wan_under}
use Rattle.policy_tree.specs.Trees.{task_numbers}
use Rattle.tiers.specs.Tiered.{is_in_tier, value_in_tier, free_under, wan_over, amounts_below, wan_of_tier, filling_of_tier, tier_closings, tier_count, tiered_amounts, tiered_line, tiered_under}
use Rattle.table_laws.specs.Order.{cluster_at, limits_at}
use Rattle.table_laws.proofs.Pieces as pieces
use Rattle.table_laws.proofs.Walks.{numbered}
use Rattle.tiers.specs.Laws.{AgreeUpTo, AreEqualUpTo}
use Rattle.kept_tree.proofs.Agreeing.{cluster_value-same, cluster_limits-same}

module _ (plan : Plan) (tiers : List ℕ) (last : ℕ) (capacities : List ℕ) (demand other : ℕ → ℕ) (clusters : length plan.clusters ≡ length plan.groups)
    (one_each : length tiers ≡ length plan.groups) (agree : AgreeUpTo plan tiers last demand other) where
  abbrev one : Wan
  one = wan_under plan demand capacities

  abbrev two : Wan
  two = wan_under plan other capacities

  value-same : (group share : ℕ) → group < length tiers → slice_index tiers group ≤ last → one.value group share ≡ two.value group share
  value-same group share lt le =
      ap (λ (value : ℕ → ℕ). value share)
      (cluster_value-same demand other plan.top (cluster_at plan group) (λ task inside. agree group task (omega (arith, clusters, one_each)) le inside))

  tier_value-same : (tier : ℕ) → tier ≤ last → value_in_tier tiers tier one.value ≡ value_in_tier tiers tier two.value
  tier_value-same tier le = fun_ext (λ group. fun_ext (λ share. go group share (is_in_tier tiers tier group) refl)) where
    go : (group share : ℕ) (b : Bool) → is_in_tier tiers tier group ≡ b → (if b then one.value group share else 0) ≡ (if b then two.value group share else 0)
    go group share true e =
        let parts = and_parts _ _ e in
        value-same group share (ltb-true group (length tiers) parts.0) (omega (arith, eqb-true (slice_index tiers group) tier parts.1))
    go group share false e = refl

  abbrev wan_by_value : (ℕ → ℕ → ℕ) → (ℕ → ℕ → ℕ) → Wan
  wan_by_value value amounts = record { top = plan.top; value = value; groups = plan.groups; capacities = free_under plan.groups capacities amounts }

  below-same : (tier : ℕ) → tier ≤ last + 1 → amounts_below one tiers tier ≡ amounts_below two tiers tier
  unfolding amounts_below
  below-same zero le = refl
  below-same (suc tier) le =
      let same : amounts_below one tiers tier ≡ amounts_below two tiers tier = below-same tier (omega arith) in
      let wans : wan_over one tiers tier (amounts_below one tiers tier) ≡ wan_over two tiers tier (amounts_below two tiers tier) =
      ap₂ wan_by_value (tier_value-same tier (omega arith)) same in
      ap₂ (λ (below : ℕ → ℕ → ℕ) (wan : Wan). λ (group place : ℕ). below group place + (filling wan).amounts group place) same wans

  wan-same : (tier : ℕ) → tier ≤ last → wan_of_tier one tiers tier ≡ wan_of_tier two tiers tier
  wan-same tier le = ap₂ wan_by_value (tier_value-same tier le) (below-same tier (omega arith))

  filling-same : (tier : ℕ) → tier ≤ last → filling_of_tier one tiers tier ≡ filling_of_tier two tiers tier
  unfolding filling_of_tier
  filling-same tier le = ap filling (wan-same tier le)

  line-same : (group : ℕ) → slice_index tiers group ≤ last → tiered_line one tiers group ≡ tiered_line two tiers group
  line-same group le =
      ap₂ (λ (wan : Wan) (final : State). group_line wan final group) (wan-same (slice_index tiers group) le) (filling-same (slice_index tiers group) le)

  amount-same : (group : ℕ) → slice_index tiers group ≤ last → group_amount one (tiered_amounts one tiers) group ≡ group_amount two (tiered_amounts two tiers) group
  amount-same group le = ap (λ (final : State). group_amount one final.amounts group) (filling-same (slice_index tiers group) le)

  closings-same : (tier count : ℕ) → tier ≤ last
      → slice_index_or (map (tier_closings one tiers) (numbers count)) tier [] ≡ slice_index_or (map (tier_closings two tiers) (numbers count)) tier []
  closings-same tier count le =
      elim (cases_lt tier count) [
        | inl within ↦
            get_or-map-range_with_len (tier_closings one tiers) 0 count tier tier [] within (zero-add tier)
            ∙ ap (λ (final : State). reverse final.closings) (filling-same tier le)
            ∙ sym (get_or-map-range_with_len (tier_closings two tiers) 0 count tier tier [] within (zero-add tier))
        | inr past ↦
            get_or_past (map (tier_closings one tiers) (numbers count)) tier [] (omega (arith, length-map-range_with_len (tier_closings one tiers) 0 count))
            ∙ sym (get_or_past (map (tier_closings two tiers) (numbers count)) tier [] (omega (arith, length-map-range_with_len (tier_closings two tiers) 0 count)))
      ]

  amounts_by : Wan → List ℕ
  amounts_by wan = map (group_amount wan (tiered_amounts wan tiers)) (numbers (length plan.clusters))

  module _ (prefix : ℕ) (walk : task_numbers plan.clusters ≡ range_with_len 0 (length (task_numbers plan.clusters))) where
    limits-at : (demand : ℕ → ℕ) (group : ℕ) → group < length plan.clusters
        → limits_at plan (tiered_under plan prefix demand capacities tiers).limits group
        ≡ cluster_limits plan.top demand (cluster_at plan group) (group_amount (wan_under plan demand capacities) (tiered_amounts (wan_under plan demand capacities) tiers) group)
    unfolding tiered_under amounts_by
    limits-at demand group lt =
        let wan : Wan = wan_under plan demand capacities in
        pieces.limits-at plan.top demand plan.clusters (amounts_by wan) (numbered plan.clusters (length (task_numbers plan.clusters)) walk)
        (length-map-range_with_len (group_amount wan (tiered_amounts wan tiers)) 0 (length plan.clusters)) group _ lt
        ∙ ap (cluster_limits plan.top demand (cluster_at plan group))
        (get_or-map-range_with_len (group_amount wan (tiered_amounts wan tiers)) 0 (length plan.clusters) group group 0 lt (zero-add group))

    limits-same : (group : ℕ) → group < length plan.groups → slice_index tiers group ≤ last
        → limits_at plan (tiered_under plan prefix demand capacities tiers).limits group ≡ limits_at plan (tiered_under plan prefix other capacities tiers).limits group
    limits-same group lt le =
        let inside : group < length plan.clusters = omega (arith, clusters) in
        limits-at demand group inside
        ∙ ap (cluster_limits plan.top demand (cluster_at plan group)) (amount-same group le)
        ∙ cluster_limits-same demand other plan.top (cluster_at plan group) (group_amount two (tiered_amounts two tiers) group)
        (λ task within. agree group task inside le within)
        ∙ sym (limits-at other group inside)

    -- the tables agree on the closings, the lines and the limits of lower tiers
    pub equal-up_to : AreEqualUpTo plan tiers last (tiered_under plan prefix demand capacities tiers) (tiered_under plan prefix other capacities tiers)
    unfolding tiered_under
    equal-up_to = record {
      closings = λ tier le. closings-same tier (tier_count tiers) le;
      lines = λ group lt le.
          get_or-map-range_with_len (tiered_line one tiers) 0 (length plan.groups) group group _ lt (zero-add group)
          ∙ line-same group le
          ∙ sym (get_or-map-range_with_len (tiered_line two tiers) 0 (length plan.groups) group group _ lt (zero-add group));
      limits = limits-same;
    }
