-- A plan with its groups in another order, with their tiers, has the same table of tiers, in that order.
use Rattle.std.proofs.Common.{◌≡◌, ℕ, zero, suc, ◌+◌, ◌<◌, ◌≤◌, Bool, ◌&&◌, ◌==◌, List, [], ◌∷◌, length, map, fold, max, reverse, slice_index, ◌-◌, if◌then◌else◌, refl, sym, ◌∙◌, ap, ap₂, subst, arith, zero-add, lt-ltb}
use mathlib.Core.Path.{fun_ext}
use Rattle.std.proofs.lemmas.List.FromFn.{length-map-range_with_len, get_or-map-range_with_len}
use Rattle.bwe_specs.specs.declared.network.Closing.{Closing}
use Rattle.bwe_specs.specs.Bounded.{sum_below}
use Rattle.bwe_specs.specs.Paths.{link_load}
use Rattle.bwe_specs.specs.Filling.{Wan, filling, group_amount}
use Rattle.bwe_specs.specs.Reports.{numbers}
use Rattle.bwe_specs.specs.Tree.{cluster_limits}
use Rattle.bwe_specs.specs.Allocation.{Plan, group_line, wan_under}
use Rattle.table_laws.specs.Tasks.{AreNumbered}
use Rattle.table_laws.specs.Order.{IsOrder, cluster_at, limits_at, reordered}
use Rattle.table_laws.proofs.Alike.{same_cluster, same_groups, same_values}
use Rattle.table_laws.proofs.Numbers.{cluster_limits-same}
use Rattle.table_laws.proofs.Pieces.{limits-at}
use Rattle.table_laws.proofs.Reordered as moving
use Rattle.tiers.specs.Tiered.{is_in_tier, value_in_tier, amounts_below, wan_of_tier, filling_of_tier, tier_closings, tier_count, tiered_amounts, tiered_line, tiered_under}
use Rattle.tiers.specs.Places.{AreAlike, tiers_reordered}
use Rattle.tiers.proofs.Tiers.{tier-counted}

-- there are no more tiers than what is above each of them
count-least : (tiers : List ℕ) (from most : ℕ) → from ≤ most → ((at : ℕ) → at < length tiers → slice_index tiers at < most) → fold (λ count tier. max count (tier + 1)) from tiers ≤ most
count-least [] from most le each = le
count-least (tier ∷ tiers) from most le each =
    count-least tiers (max from (tier + 1)) most (omega (arith, le, each 0 (omega arith))) (λ at lt. each (suc at) (omega (arith, lt)))

module _ (plan : Plan) (tiers : List ℕ) (group_at place_of renumber : ℕ → ℕ) (demand other : ℕ → ℕ) (capacities : List ℕ)
    (one_each : length plan.clusters ≡ length plan.groups) (one_tier : length tiers ≡ length plan.groups)
    (order : IsOrder (length plan.groups) group_at place_of) (same : (task : ℕ) → other (renumber task) ≡ demand task) where
  abbrev wan : Wan
  wan = wan_under plan demand capacities

  abbrev moved_plan : Plan
  moved_plan = reordered group_at renumber plan

  abbrev moved : Wan
  moved = wan_under moved_plan other capacities

  abbrev moved_tiers : List ℕ
  moved_tiers = tiers_reordered group_at tiers

  abbrev n : ℕ
  n = length plan.groups

  count : length moved_plan.groups ≡ n
  count = length-map-range_with_len _ 0 n

  tiers-count : length moved_tiers ≡ length tiers
  tiers-count = length-map-range_with_len _ 0 (length tiers)

  same_tier : (place : ℕ) → place < n → slice_index moved_tiers place ≡ slice_index tiers (group_at place)
  same_tier place lt =
      get_or-map-range_with_len (λ place. slice_index tiers (group_at place)) 0 (length tiers) place place 0 (omega (arith, one_tier, lt)) (zero-add place)

  -- a group is in its tier wherever it stands
  same_in : (tier place : ℕ) → place < n → is_in_tier moved_tiers tier place ≡ is_in_tier tiers tier (group_at place)
  same_in tier place lt =
      ap₂ (λ (one two : Bool). one && two)
      (lt-ltb place (length moved_tiers) (omega (arith, tiers-count, one_tier, lt)) ∙ sym (lt-ltb (group_at place) (length tiers) (omega (arith, one_tier, order.within place lt))))
      (ap (λ (own : ℕ). own == tier) (same_tier place lt))

  same_tier_values : (tier place : ℕ) → place < n → (share : ℕ) → value_in_tier moved_tiers tier moved.value place share ≡ value_in_tier tiers tier wan.value (group_at place) share
  same_tier_values tier place lt share =
      ap₂ (λ (b : Bool) (value : ℕ). if b then value else 0) (same_in tier place lt) (same_values plan group_at renumber demand other capacities same place lt share)

  abbrev AreMoved : (ℕ → ℕ → ℕ) → (ℕ → ℕ → ℕ) → Type 0
  AreMoved amounts there = (place : ℕ) → place < n → there place ≡ amounts (group_at place)

  -- what is filled for a tier, with the groups in the other order
  abbrev turned : ℕ → Wan
  turned tier = moving.other (wan_of_tier wan tiers tier) moved_plan.groups (value_in_tier moved_tiers tier moved.value) group_at place_of count order (same_groups plan group_at renumber) (same_tier_values tier)

  turned-is : (tier : ℕ) → AreMoved (amounts_below wan tiers tier) (amounts_below moved moved_tiers tier) → wan_of_tier moved moved_tiers tier ≡ turned tier
  turned-is tier are =
      let loads = moving.loads-same (wan_of_tier wan tiers tier) moved_plan.groups (value_in_tier moved_tiers tier moved.value) group_at place_of count order (same_groups plan group_at renumber) (same_tier_values tier)
      (amounts_below wan tiers tier) (amounts_below moved moved_tiers tier) are in
      ap (λ (load : ℕ → ℕ). record {
        top = plan.top;
        value = value_in_tier moved_tiers tier moved.value;
        groups = moved_plan.groups;
        capacities = map (λ link. slice_index capacities link - load link) (numbers (length capacities));
      }) (fun_ext loads)

  filling-moved : (tier : ℕ) → AreMoved (amounts_below wan tiers tier) (amounts_below moved moved_tiers tier)
      → AreMoved (filling (wan_of_tier wan tiers tier)).amounts (filling (wan_of_tier moved moved_tiers tier)).amounts
  filling-moved tier are =
      subst (λ (there : Wan). AreMoved (filling (wan_of_tier wan tiers tier)).amounts (filling there).amounts) (sym (turned-is tier are))
      (moving.amounts-moved (wan_of_tier wan tiers tier) moved_plan.groups (value_in_tier moved_tiers tier moved.value) group_at place_of count order (same_groups plan group_at renumber) (same_tier_values tier))

  below-moved : (tier : ℕ) → AreMoved (amounts_below wan tiers tier) (amounts_below moved moved_tiers tier)
  unfolding amounts_below
  below-moved zero place lt = refl
  below-moved (suc tier) place lt =
      ap₂ (λ (below more : ℕ → ℕ). λ (at : ℕ). below at + more at) (below-moved tier place lt) (filling-moved tier (below-moved tier) place lt)

  wan-is : (tier : ℕ) → wan_of_tier moved moved_tiers tier ≡ turned tier
  wan-is tier = turned-is tier (below-moved tier)

  closings-same : (tier : ℕ) → tier_closings moved moved_tiers tier ≡ tier_closings wan tiers tier
  unfolding filling_of_tier
  closings-same tier =
      ap (λ (there : Wan). reverse (filling there).closings) (wan-is tier)
      ∙ ap reverse (moving.closings-same (wan_of_tier wan tiers tier) moved_plan.groups (value_in_tier moved_tiers tier moved.value) group_at place_of count order (same_groups plan group_at renumber) (same_tier_values tier))

  line-moved : (tier place : ℕ) → place < n
      → group_line (wan_of_tier moved moved_tiers tier) (filling (wan_of_tier moved moved_tiers tier)) place ≡ group_line (wan_of_tier wan tiers tier) (filling (wan_of_tier wan tiers tier)) (group_at place)
  line-moved tier place lt =
      ap (λ (there : Wan). group_line there (filling there) place) (wan-is tier)
      ∙ moving.line-same (wan_of_tier wan tiers tier) moved_plan.groups (value_in_tier moved_tiers tier moved.value) group_at place_of count order (same_groups plan group_at renumber) (same_tier_values tier) place lt

  -- the line of a group is that of its own tier
  line-same : (place : ℕ) → place < n → tiered_line moved moved_tiers place ≡ tiered_line wan tiers (group_at place)
  unfolding filling_of_tier
  line-same place lt =
      ap (λ (tier : ℕ). group_line (wan_of_tier moved moved_tiers tier) (filling (wan_of_tier moved moved_tiers tier)) place) (same_tier place lt)
      ∙ line-moved (slice_index tiers (group_at place)) place lt

  amounts-moved : AreMoved (tiered_amounts wan tiers) (tiered_amounts moved moved_tiers)
  unfolding filling_of_tier
  amounts-moved place lt =
      ap (λ (tier : ℕ). (filling (wan_of_tier moved moved_tiers tier)).amounts place) (same_tier place lt)
      ∙ filling-moved (slice_index tiers (group_at place)) (below-moved (slice_index tiers (group_at place))) place lt

  load-same : (link : ℕ) → link_load moved_plan.groups (tiered_amounts moved moved_tiers) link ≡ link_load plan.groups (tiered_amounts wan tiers) link
  load-same =
      moving.loads-same (wan_of_tier wan tiers 0) moved_plan.groups (value_in_tier moved_tiers 0 moved.value) group_at place_of count order (same_groups plan group_at renumber) (same_tier_values 0)
      (tiered_amounts wan tiers) (tiered_amounts moved moved_tiers) amounts-moved

  -- there are as many tiers
  tiers-no_more : tier_count moved_tiers ≤ tier_count tiers
  tiers-no_more =
      count-least moved_tiers 0 (tier_count tiers) (omega arith)
      (λ place lt.
      let within : place < n = omega (arith, tiers-count, one_tier, lt) in
      omega (arith, same_tier place within, tier-counted tiers (group_at place) (omega (arith, one_tier, order.within place within))))

  tiers-no_less : tier_count tiers ≤ tier_count moved_tiers
  tiers-no_less =
      count-least tiers 0 (tier_count moved_tiers) (omega arith)
      (λ group lt.
      let within : group < n = omega (arith, one_tier, lt) in
      let there : place_of group < n = order.place_within group within in
      let own : slice_index moved_tiers (place_of group) ≡ slice_index tiers group = same_tier (place_of group) there ∙ ap (slice_index tiers) (order.at_place group within) in
      omega (arith, own, tier-counted moved_tiers (place_of group) (omega (arith, tiers-count, one_tier, there))))

  tiers-same : tier_count moved_tiers ≡ tier_count tiers
  tiers-same = omega (arith, tiers-no_more, tiers-no_less)

  amount-same : (place : ℕ) → place < n → group_amount moved (tiered_amounts moved moved_tiers) place ≡ group_amount wan (tiered_amounts wan tiers) (group_at place)
  amount-same place lt =
      ap₂ (λ (size : ℕ) (amounts : ℕ → ℕ). sum_below size amounts) (ap (λ groups. length groups) (same_groups plan group_at renumber place lt)) (amounts-moved place lt)

  abbrev amounts_by : Wan → List ℕ → ℕ → List ℕ
  amounts_by wan tiers size = map (group_amount wan (tiered_amounts wan tiers)) (numbers size)

  module _ (prefix : ℕ) (numbered : AreNumbered plan.clusters) (moved_numbered : AreNumbered moved_plan.clusters) where
    limits-are : (group : ℕ) → group < n
        → limits_at plan (tiered_under plan prefix demand capacities tiers).limits group ≡ cluster_limits plan.top demand (cluster_at plan group) (group_amount wan (tiered_amounts wan tiers) group)
    unfolding tiered_under
    limits-are group lt =
        limits-at plan.top demand plan.clusters (amounts_by wan tiers (length plan.clusters)) numbered (length-map-range_with_len _ 0 (length plan.clusters)) group _ (omega (arith, one_each, lt))
        ∙ ap (cluster_limits plan.top demand (cluster_at plan group))
        (get_or-map-range_with_len (group_amount wan (tiered_amounts wan tiers)) 0 (length plan.clusters) group group 0 (omega (arith, one_each, lt)) (zero-add group))

    moved-limits-are : (place : ℕ) → place < n
        → limits_at moved_plan (tiered_under moved_plan prefix other capacities moved_tiers).limits place
        ≡ cluster_limits plan.top other (cluster_at moved_plan place) (group_amount moved (tiered_amounts moved moved_tiers) place)
    unfolding tiered_under
    moved-limits-are place lt =
        let many : length moved_plan.clusters ≡ n = length-map-range_with_len _ 0 n in
        limits-at plan.top other moved_plan.clusters (amounts_by moved moved_tiers (length moved_plan.clusters)) moved_numbered (length-map-range_with_len _ 0 (length moved_plan.clusters)) place _ (omega (arith, many, lt))
        ∙ ap (cluster_limits plan.top other (cluster_at moved_plan place))
        (get_or-map-range_with_len (group_amount moved (tiered_amounts moved moved_tiers)) 0 (length moved_plan.clusters) place place 0 (omega (arith, many, lt)) (zero-add place))

    limits-same : (place : ℕ) → place < n
        → limits_at moved_plan (tiered_under moved_plan prefix other capacities moved_tiers).limits place ≡ limits_at plan (tiered_under plan prefix demand capacities tiers).limits (group_at place)
    limits-same place lt =
        moved-limits-are place lt
        ∙ ap₂ (cluster_limits plan.top other) (same_cluster plan group_at renumber place lt) (amount-same place lt)
        ∙ cluster_limits-same plan.top renumber demand other same (cluster_at plan (group_at place)) (group_amount wan (tiered_amounts wan tiers) (group_at place))
        ∙ sym (limits-are (group_at place) (order.within place lt))

    pub tiers-alike : AreAlike plan moved_plan group_at (tiered_under plan prefix demand capacities tiers) (tiered_under moved_plan prefix other capacities moved_tiers)
    unfolding tiered_under
    tiers-alike = record {
      lines = λ place lt.
          get_or-map-range_with_len (tiered_line moved moved_tiers) 0 (length moved_plan.groups) place place _ (omega (arith, count, lt)) (zero-add place)
          ∙ line-same place lt
          ∙ sym (get_or-map-range_with_len (tiered_line wan tiers) 0 n (group_at place) (group_at place) _ (order.within place lt) (zero-add (group_at place)));
      limits = limits-same;
      loads = ap (λ (load : ℕ → ℕ). map load (numbers (length capacities))) (fun_ext load-same);
      closings = ap₂ (λ (closings : ℕ → List Closing) (size : ℕ). map closings (numbers size)) (fun_ext closings-same) tiers-same;
    }
