-- What a group has outside its tier, that the loads of tiers add up, and that they fit.
use Rattle.std.proofs.Common.{◌≡◌, ℕ, zero, suc, ◌+◌, ◌-◌, ◌<◌, ◌≤◌, Bool, true, false, max, List, [], ◌∷◌, length, fold, slice_index, if◌then◌else◌, le_refl, le_trans, ◌⊎◌, inl, inr, refl, sym, ap, ap₂, ◌∙◌, arith, zero-add}
use Rattle.std.proofs.lemmas.Bool.{cases_lt, and_right, ne_eqb}
use Rattle.std.proofs.lemmas.List.FromFn.{fill_by_all, length-map-range_with_len, get_or-map-range_with_len}
use Rattle.bwe_specs.specs.declared.limits.TheConstants.{MAX_TOTAL}
use Rattle.bwe_specs.specs.Bounded.{sum_below}
use Rattle.bwe_specs.specs.Paths.{PathGroup, PathGroups, path_group_at, path_group_count, load_on, link_load}
use Rattle.bwe_specs.specs.Filling.{Wan, filling, group_amount}
use Rattle.bwe_specs.specs.Values.{NeverFalls}
use Rattle.bwe_specs.proofs.Bounds.{sum_below-mono, sum_below-same, sum_below-add, sum_below-term}
use Rattle.bwe_specs.proofs.Loads.{load_on-zero, link_load-zero, fits-each}
use Rattle.bwe_specs.proofs.Steps.{filling-sound}
use Rattle.plain_table.proofs.Filled.{amount-at_most}
use Rattle.tiers.specs.Tiered.{is_in_tier, value_in_tier, free_under, wan_over, amounts_below, wan_of_tier, filling_of_tier, tier_count, tiered_amounts}

-- a fold that takes the greatest is not below where it began ..
count-above : (tiers : List ℕ) (from : ℕ) → from ≤ fold (λ count tier. max count (tier + 1)) from tiers
count-above [] from = le_refl from
count-above (tier ∷ tiers) from = omega (arith, count-above tiers (max from (tier + 1)))

-- .. and is above each tier
count-each : (tiers : List ℕ) (from group : ℕ) → group < length tiers → slice_index tiers group < fold (λ count tier. max count (tier + 1)) from tiers
count-each [] from group lt = absurd (omega arith)
count-each (tier ∷ tiers) from zero lt = omega (arith, count-above tiers (max from (tier + 1)))
count-each (tier ∷ tiers) from (suc group) lt = count-each tiers (max from (tier + 1)) group (omega arith)

-- each group's tier is one of the tiers
pub tier-counted : (tiers : List ℕ) (group : ℕ) → group < length tiers → slice_index tiers group < tier_count tiers
tier-counted tiers group lt = count-each tiers 0 group lt

-- a load is not rounded up twice where one of two amounts is 0
load_on-apart : (path_group : PathGroup) (link a b : ℕ) → (a ≡ 0) ⊎ (b ≡ 0) → load_on path_group link (a + b) ≡ load_on path_group link a + load_on path_group link b
load_on-apart path_group link a b none =
    elim none [
      | inl e ↦
          let same : a + b ≡ b = omega arith in
          omega (arith, ap (load_on path_group link) same, ap (load_on path_group link) e, load_on-zero path_group link)
      | inr e ↦
          let same : a + b ≡ a = omega arith in
          omega (arith, ap (load_on path_group link) same, ap (load_on path_group link) e, load_on-zero path_group link)
    ]

-- what a group's amount at a place puts on a link
abbrev part_load : List PathGroups → ℕ → (ℕ → ℕ → ℕ) → ℕ → ℕ → ℕ
part_load groups link amounts group place = load_on (path_group_at groups group place) link (amounts group place)

-- loads of amounts that are nowhere both above 0 add up
link_load-apart : (groups : List PathGroups) (x y : ℕ → ℕ → ℕ) (link : ℕ)
    → ((group place : ℕ) → place < path_group_count groups group → (x group place ≡ 0) ⊎ (y group place ≡ 0))
    → link_load groups (λ group place. x group place + y group place) link ≡ link_load groups x link + link_load groups y link
unfolding link_load
link_load-apart groups x y link apart =
    sum_below-same (length groups) _ (λ group. sum_below (path_group_count groups group) (part_load groups link x group) + sum_below (path_group_count groups group) (part_load groups link y group))
    (λ group lt.
    sum_below-same (path_group_count groups group) _ (λ place. part_load groups link x group place + part_load groups link y group place)
    (λ place within. load_on-apart (path_group_at groups group place) link (x group place) (y group place) (apart group place within))
    ∙ sum_below-add (path_group_count groups group) (part_load groups link x group) (part_load groups link y group))
    ∙ sum_below-add (length groups) (λ group. sum_below (path_group_count groups group) (part_load groups link x group)) (λ group. sum_below (path_group_count groups group) (part_load groups link y group))

-- what is free of a link
pub free-at : (groups : List PathGroups) (capacities : List ℕ) (amounts : ℕ → ℕ → ℕ) (link : ℕ) → link < length capacities
    → slice_index (free_under groups capacities amounts) link ≡ slice_index capacities link - link_load groups amounts link
free-at groups capacities amounts link lt =
    get_or-map-range_with_len (λ link. slice_index capacities link - link_load groups amounts link) 0 (length capacities) link link 0 lt (zero-add link)

pub length-free : (groups : List PathGroups) (capacities : List ℕ) (amounts : ℕ → ℕ → ℕ) → length (free_under groups capacities amounts) ≡ length capacities
length-free groups capacities amounts = length-map-range_with_len (λ link. slice_index capacities link - link_load groups amounts link) 0 (length capacities)

module _ (wan : Wan) (tiers : List ℕ) where
  -- nothing is on the links at first
  pub load-none : (link : ℕ) → link_load wan.groups (amounts_below wan tiers 0) link ≡ 0
  unfolding amounts_below
  load-none link = link_load-zero wan.groups link

  pub free-none : free_under wan.groups wan.capacities (amounts_below wan tiers 0) ≡ wan.capacities
  free-none =
      sym (fill_by_all (λ link. slice_index wan.capacities link - link_load wan.groups (amounts_below wan tiers 0) link) wan.capacities (length wan.capacities) 0 refl
      (λ link lt. omega (arith, load-none link)))

  value-le : (tier group share : ℕ) → value_in_tier tiers tier wan.value group share ≤ wan.value group share
  value-le tier group share = go (is_in_tier tiers tier group) where
    go : (b : Bool) → (if b then wan.value group share else 0) ≤ wan.value group share
    go true = le_refl (wan.value group share)
    go false = omega arith

  module _ (never : NeverFalls wan) where
    pub tier-never : (tier : ℕ) (amounts : ℕ → ℕ → ℕ) → NeverFalls (wan_over wan tiers tier amounts)
    tier-never tier amounts = record { next = λ group share lt. go group share (is_in_tier tiers tier group) (never.next group share lt) } where
      go : (group share : ℕ) (b : Bool) → wan.value group share ≤ wan.value group (suc share) → (if b then wan.value group share else 0) ≤ (if b then wan.value group (suc share) else 0)
      go group share true le = le
      go group share false le = le_refl 0

    -- the loads of a tier's filling fit what is free
    pub tier-fits : (tier link : ℕ) → link < length wan.capacities
        → link_load wan.groups (filling_of_tier wan tiers tier).amounts link ≤ slice_index (free_under wan.groups wan.capacities (amounts_below wan tiers tier)) link
    unfolding filling_of_tier
    tier-fits tier link lt =
        fits-each wan.groups (free_under wan.groups wan.capacities (amounts_below wan tiers tier)) (filling (wan_of_tier wan tiers tier)).amounts
        (filling-sound (wan_of_tier wan tiers tier) (tier-never tier (amounts_below wan tiers tier))).fits link
        (omega (arith, length-free wan.groups wan.capacities (amounts_below wan tiers tier)))

    module _ (bound : sum_below (length wan.groups) (λ group. wan.value group wan.top) ≤ MAX_TOTAL) where
      pub tier-bound : (tier : ℕ) → sum_below (length wan.groups) (λ group. value_in_tier tiers tier wan.value group wan.top) ≤ MAX_TOTAL
      tier-bound tier =
          le_trans (sum_below-mono (length wan.groups) _ (λ group. wan.value group wan.top) (λ group lt. value-le tier group wan.top)) bound

      -- a group gets at most its value at the top in the filling of its tier
      pub tier-at_most : (tier group : ℕ) → group_amount wan (filling_of_tier wan tiers tier).amounts group ≤ value_in_tier tiers tier wan.value group wan.top
      unfolding filling_of_tier
      tier-at_most tier group =
          amount-at_most (wan_of_tier wan tiers tier) (tier-never tier (amounts_below wan tiers tier)) (tier-bound tier) group

      pub own-at_most : (tier group : ℕ) → group_amount wan (filling_of_tier wan tiers tier).amounts group ≤ wan.value group wan.top
      own-at_most tier group = le_trans (tier-at_most tier group) (value-le tier group wan.top)

      -- outside its tier a group gets nothing
      outside : (tier group place : ℕ) → (slice_index tiers group ≡ tier → ⊥) → place < path_group_count wan.groups group
          → (filling_of_tier wan tiers tier).amounts group place ≡ 0
      outside tier group place apart within =
          let out : is_in_tier tiers tier group ≡ false = and_right _ _ (ne_eqb (slice_index tiers group) tier apart) in
          let none : value_in_tier tiers tier wan.value group wan.top ≡ 0 = ap (λ b. if b then wan.value group wan.top else 0) out in
          omega (
            arith,
            none,
            tier-at_most tier group,
            sum_below-term (path_group_count wan.groups group) place ((filling_of_tier wan tiers tier).amounts group) within,
          )

      below-more : (tier group place : ℕ) → amounts_below wan tiers (suc tier) group place ≡ amounts_below wan tiers tier group place + (filling_of_tier wan tiers tier).amounts group place
      unfolding amounts_below filling_of_tier
      below-more tier group place = refl

      -- nor has it anything of the tiers below its own
      below-none : (tier group place : ℕ) → tier ≤ slice_index tiers group → place < path_group_count wan.groups group → amounts_below wan tiers tier group place ≡ 0
      unfolding amounts_below
      below-none zero group place le within = refl
      below-none (suc tier) group place le within =
          below-more tier group place
          ∙ ap₂ (λ a b. a + b) (below-none tier group place (omega arith) within) (outside tier group place (λ e. omega arith) within)

      -- of all tiers below a higher one it has what it gets in its own
      below-own : (tier group place : ℕ) → slice_index tiers group < tier → place < path_group_count wan.groups group
          → amounts_below wan tiers tier group place ≡ tiered_amounts wan tiers group place
      below-own zero group place lt within = absurd (omega arith)
      below-own (suc tier) group place lt within =
          elim (cases_lt (slice_index tiers group) tier) [
            | inl under ↦
                omega (arith, below-more tier group place, below-own tier group place under within, outside tier group place (λ e. omega arith) within)
            | inr over ↦
                let here : slice_index tiers group ≡ tier = omega arith in
                omega (
                  arith,
                  below-more tier group place,
                  below-none tier group place over within,
                  ap (λ tier. (filling_of_tier wan tiers tier).amounts group place) here,
                )
          ]

      -- the loads of the tiers add up
      pub load-more : (tier link : ℕ)
          → link_load wan.groups (amounts_below wan tiers (tier + 1)) link
          ≡ link_load wan.groups (amounts_below wan tiers tier) link + link_load wan.groups (filling_of_tier wan tiers tier).amounts link
      unfolding amounts_below filling_of_tier
      load-more tier link =
          let next : tier + 1 ≡ suc tier = omega arith in
          ap (λ tier. link_load wan.groups (amounts_below wan tiers tier) link) next
          ∙ link_load-apart wan.groups (amounts_below wan tiers tier) (filling_of_tier wan tiers tier).amounts link
          (λ group place within. elim (cases_lt (slice_index tiers group) tier) [
            | inl under ↦ inr (outside tier group place (λ e. omega arith) within)
            | inr over ↦ inl (below-none tier group place over within)
          ])

      -- no link is over under the tiers below one
      pub below-fits : (tier link : ℕ) → link < length wan.capacities → link_load wan.groups (amounts_below wan tiers tier) link ≤ slice_index wan.capacities link
      below-fits zero link lt = omega (arith, load-none link)
      below-fits (suc tier) link lt =
          let next : tier + 1 ≡ suc tier = omega arith in
          omega (
            arith,
            ap (λ tier. link_load wan.groups (amounts_below wan tiers tier) link) next,
            load-more tier link,
            tier-fits tier link lt,
            free-at wan.groups wan.capacities (amounts_below wan tiers tier) link lt,
            below-fits tier link lt,
          )

      -- what all groups get puts on a link what all tiers put on it
      pub own-load : (tier link : ℕ) → ((group : ℕ) → group < length wan.groups → slice_index tiers group < tier)
          → link_load wan.groups (tiered_amounts wan tiers) link ≡ link_load wan.groups (amounts_below wan tiers tier) link
      unfolding link_load
      own-load tier link each =
          sum_below-same (length wan.groups) _ _ (λ group lt. sum_below-same (path_group_count wan.groups group) _ _
          (λ place within. ap (load_on (path_group_at wan.groups group place) link) (sym (below-own tier group place (each group lt) within))))
