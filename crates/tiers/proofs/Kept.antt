-- What the code keeps of the fillings, and how it grows by a tier.
use Rattle.std.proofs.Common.{◌≡◌, ℕ, ◌+◌, ◌-◌, ◌<◌, ◌≤◌, List, [], ◌∷◌, ◌++◌, length, map, get_or, replicate, slice_index, Vec, Global, refl, sym, ap, ap₂, ◌∙◌, arith, zero-add}
use Rattle.std.proofs.lemmas.List.{get_or-map, length-replicate, get_or-replicate}
use Rattle.std.proofs.lemmas.List.FromFn.{fill_by_all, length-map-range_with_len, get_or-map-range_with_len, map-range_with_len_more}
use Rattle.bwe_specs.specs.declared.limits.TheConstants.{MAX_TOTAL}
use Rattle.bwe_specs.specs.Bounded.{sum_below}
use Rattle.bwe_specs.specs.Paths.{link_load}
use Rattle.bwe_specs.specs.Filling.{Wan, filling}
use Rattle.bwe_specs.specs.Reports.{numbers}
use Rattle.bwe_specs.specs.Values.{NeverFalls}
use Rattle.mpfa_fill.specs.declared.filling.Filling.{Filling}
use Rattle.mpfa_fill.specs.Filling.{IsFilling}
use Rattle.plain_table.proofs.Filled.{map-numbers}
use Rattle.tiers.specs.Tiered.{free_under, amounts_below, wan_of_tier, filling_of_tier, tier_closings}
use Rattle.tiers.specs.Fillings.{Fillings, AreFilled, rows_by, stops_by, with_filling}
use Rattle.tiers.proofs.Tiers.{tier-fits, load-none, load-more, below-fits, free-at, length-free}

-- a list that is read of lists
pub list-read : {X : Type 0} (lists : List (Vec X Global)) (at : ℕ) (list : Vec X Global) → at < length lists → list ≡ get_or lists at list
    → get_or (map (λ (list : Vec X Global). list.items) lists) at [] ≡ list.items
list-read lists at list within is =
    get_or-map (λ (list : Vec _ Global). list.items) lists at list [] within ∙ ap (λ (list : Vec _ Global). list.items) (sym is)

module _ (wan : Wan) (tiers : List ℕ) (never : NeverFalls wan) (bound : sum_below (length wan.groups) (λ group. wan.value group wan.top) ≤ MAX_TOTAL) where
  -- at first no tier is filled
  pub filled-none : AreFilled wan tiers 0 (record { closings = []; amounts = []; shares = []; loads = replicate (length wan.capacities) 0 })
  filled-none = record {
    closings = refl;
    amounts = refl;
    shares = refl;
    loads = fill_by_all (link_load wan.groups (amounts_below wan tiers 0)) (replicate (length wan.capacities) 0) (length wan.capacities) 0 (length-replicate (length wan.capacities) 0)
        (λ link lt. get_or-replicate (length wan.capacities) link 0 0 lt ∙ sym (load-none wan tiers link));
  }

  module _ (tier : ℕ) (filled : Filling) (is : IsFilling (wan_of_tier wan tiers tier) filled) where
    abbrev free : List ℕ
    free = free_under wan.groups wan.capacities (amounts_below wan tiers tier)

    abbrev loads : List ℕ
    loads = filled.loads.items

    pub next-links : length loads ≡ length free
    next-links = ap length is.loads ∙ length-map-range_with_len (link_load wan.groups (filling (wan_of_tier wan tiers tier)).amounts) 0 (length free)

    pub next-load : (link : ℕ) → link < length wan.capacities → slice_index loads link ≡ link_load wan.groups (filling_of_tier wan tiers tier).amounts link
    unfolding filling_of_tier
    next-load link lt =
        ap (λ loads. slice_index loads link) is.loads
        ∙ get_or-map-range_with_len (link_load wan.groups (filling (wan_of_tier wan tiers tier)).amounts) 0 (length free) link link 0
        (omega (arith, length-free wan.groups wan.capacities (amounts_below wan tiers tier))) (zero-add link)

    -- the next loads fit what is free
    pub next-fit : (link : ℕ) → link < length loads → slice_index loads link ≤ slice_index free link
    next-fit link lt =
        let within : link < length wan.capacities = omega (arith, next-links, length-free wan.groups wan.capacities (amounts_below wan tiers tier)) in
        omega (arith, next-load link within, tier-fits wan tiers never tier link within)

    -- what is then free
    pub next-free : map (λ link. slice_index free link - slice_index loads link) (numbers (length free)) ≡ free_under wan.groups wan.capacities (amounts_below wan tiers (tier + 1))
    next-free =
        ap (λ n. map (λ link. slice_index free link - slice_index loads link) (numbers n)) (length-free wan.groups wan.capacities (amounts_below wan tiers tier))
        ∙ map-numbers 0 (λ link. slice_index free link - slice_index loads link)
        (λ link. slice_index wan.capacities link - link_load wan.groups (amounts_below wan tiers (tier + 1)) link) (length wan.capacities)
        (λ link lt.
        omega (arith, next-load link lt, free-at wan.groups wan.capacities (amounts_below wan tiers tier) link lt, load-more wan tiers never bound tier link))

    module _ (fillings : Fillings) (are : AreFilled wan tiers tier fillings) where
      pub kept-links : length fillings.loads ≡ length wan.capacities
      kept-links = ap length are.loads ∙ length-map-range_with_len (link_load wan.groups (amounts_below wan tiers tier)) 0 (length wan.capacities)

      kept-load : (link : ℕ) → link < length wan.capacities → slice_index fillings.loads link ≡ link_load wan.groups (amounts_below wan tiers tier) link
      kept-load link lt =
          ap (λ loads. slice_index loads link) are.loads
          ∙ get_or-map-range_with_len (link_load wan.groups (amounts_below wan tiers tier)) 0 (length wan.capacities) link link 0 lt (zero-add link)

      pub take-links : length loads ≡ length fillings.loads
      take-links = next-links ∙ length-free wan.groups wan.capacities (amounts_below wan tiers tier) ∙ sym kept-links

      -- the loads together fit the capacities
      pub take-fit : (link : ℕ) → link < length loads → slice_index fillings.loads link + slice_index loads link ≤ slice_index wan.capacities link
      take-fit link lt =
          let within : link < length wan.capacities = omega (arith, take-links, kept-links) in
          omega (
            arith,
            kept-load link within,
            next-load link within,
            tier-fits wan tiers never tier link within,
            free-at wan.groups wan.capacities (amounts_below wan tiers tier) link within,
            below-fits wan tiers never bound tier link within,
          )

      -- the tier is filled too
      pub filled-more : AreFilled wan tiers (tier + 1) (with_filling fillings filled)
      unfolding filling_of_tier
      filled-more = record {
        closings = ap₂ (λ lists list. lists ++ list ∷ []) are.closings is.closings ∙ sym (map-range_with_len_more (tier_closings wan tiers) 0 tier tier (zero-add tier));
        amounts = ap₂ (λ lists list. lists ++ list ∷ []) are.amounts is.amounts
            ∙ sym (map-range_with_len_more (λ tier. rows_by wan.groups (filling_of_tier wan tiers tier).amounts) 0 tier tier (zero-add tier));
        shares = ap₂ (λ lists list. lists ++ list ∷ []) are.shares is.shares ∙ sym (map-range_with_len_more (stops_by wan tiers) 0 tier tier (zero-add tier));
        loads = ap (λ n. map (λ link. slice_index fillings.loads link + slice_index loads link) (numbers n)) kept-links
            ∙ map-numbers 0 (λ link. slice_index fillings.loads link + slice_index loads link) (link_load wan.groups (amounts_below wan tiers (tier + 1))) (length wan.capacities)
            (λ link lt. omega (arith, kept-load link lt, next-load link lt, load-more wan tiers never bound tier link));
      }
