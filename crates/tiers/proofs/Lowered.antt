-- Capacities that are lowered, and loads that are added, link by link.
use Rattle.std.proofs.Common.{◌≡◌, ℕ, ◌+◌, ◌-◌, ◌<◌, ◌≤◌, List, length, map, set, get_or, slice_index, refl, sym, ap, ◌∙◌, subst, arith, inl, inr, get_or-set_same, get_or-set_other}
use Rattle.std.proofs.lemmas.Bool.{cases_eq, cases_lt}
use Rattle.std.proofs.lemmas.List.{length-set}
use Rattle.std.proofs.lemmas.List.FromFn.{fill_by_all}
use Rattle.bwe_specs.specs.Reports.{numbers}
use Rattle.wan_topology.specs.Network.{Network}
use Rattle.wan_topology.proofs.Networks.{same-network}
use Rattle.path_groups.proofs.OtherCapacities.{with_capacities}

-- below the next and not there
ne_lt : (i n : ℕ) → i < n + 1 → (i ≡ n → ⊥) → i < n
ne_lt i n lt apart = elim (cases_lt i n) [ inl under ↦ under | inr over ↦ absurd (apart (omega arith)) ]

-- each link below one has its capacity less a load, each other has its capacity
pub record IsLowered (old new : Network) (loads : List ℕ) (link : ℕ) : Type 0 where
  pub names : new.names ≡ old.names
  pub sites : new.sites ≡ old.sites
  pub count : length new.capacities ≡ length old.capacities
  pub below : (at : ℕ) → at < link → slice_index new.capacities at ≡ slice_index old.capacities at - slice_index loads at
  pub rest : (at : ℕ) → link ≤ at → slice_index new.capacities at ≡ slice_index old.capacities at

pub lowered-none : (old : Network) (loads : List ℕ) → IsLowered old old loads 0
lowered-none old loads = record {
  names = refl;
  sites = refl;
  count = refl;
  below = λ at lt. absurd (omega arith);
  rest = λ at le. refl;
}

pub lowered-more : (old new : Network) (loads : List ℕ) (link left : ℕ) → IsLowered old new loads link → link < length new.capacities
    → left ≡ slice_index new.capacities link - slice_index loads link → IsLowered old (with_capacities new (set new.capacities link left)) loads (link + 1)
lowered-more old new loads link left is within left-is = record {
  names = is.names;
  sites = is.sites;
  count = length-set new.capacities link left ∙ is.count;
  below = λ at lt.
      elim (cases_eq at link) [
        | inl here ↦
            subst (λ (at : ℕ). get_or (set new.capacities link left) at 0 ≡ get_or old.capacities at 0 - get_or loads at 0) (sym here)
            (get_or-set_same new.capacities link left 0 within ∙ left-is ∙ ap (λ capacity. capacity - get_or loads link 0) (is.rest link (omega arith)))
        | inr apart ↦ get_or-set_other new.capacities link at left 0 apart ∙ is.below at (ne_lt at link lt apart)
      ];
  rest = λ at le. get_or-set_other new.capacities link at left 0 (λ e. absurd (omega arith)) ∙ is.rest at (omega arith);
}

pub lowered-all : (old new : Network) (loads : List ℕ) (link : ℕ) → IsLowered old new loads link → length old.capacities ≡ link
    → new ≡ with_capacities old (map (λ link. slice_index old.capacities link - slice_index loads link) (numbers (length old.capacities)))
lowered-all old new loads link is all =
    let capacities : new.capacities ≡ map (λ link. slice_index old.capacities link - slice_index loads link) (numbers (length old.capacities)) =
    fill_by_all (λ link. slice_index old.capacities link - slice_index loads link) new.capacities (length old.capacities) 0 is.count (λ at lt. is.below at (omega (arith, all))) in
    same-network new _ is.names is.sites capacities

-- each load below a link has a load more, each other is as it was
pub record IsAdded (old new more : List ℕ) (link : ℕ) : Type 0 where
  pub count : length new ≡ length old
  pub below : (at : ℕ) → at < link → slice_index new at ≡ slice_index old at + slice_index more at
  pub rest : (at : ℕ) → link ≤ at → slice_index new at ≡ slice_index old at

pub added-none : (old more : List ℕ) → IsAdded old old more 0
added-none old more = record { count = refl; below = λ at lt. absurd (omega arith); rest = λ at le. refl }

pub added-more : (old new more : List ℕ) (link load : ℕ) → IsAdded old new more link → link < length new → load ≡ slice_index new link + slice_index more link
    → IsAdded old (set new link load) more (link + 1)
added-more old new more link load is within load-is = record {
  count = length-set new link load ∙ is.count;
  below = λ at lt.
      elim (cases_eq at link) [
        | inl here ↦
            subst (λ (at : ℕ). get_or (set new link load) at 0 ≡ get_or old at 0 + get_or more at 0) (sym here)
            (get_or-set_same new link load 0 within ∙ load-is ∙ ap (λ load. load + get_or more link 0) (is.rest link (omega arith)))
        | inr apart ↦ get_or-set_other new link at load 0 apart ∙ is.below at (ne_lt at link lt apart)
      ];
  rest = λ at le. get_or-set_other new link at load 0 (λ e. absurd (omega arith)) ∙ is.rest at (omega arith);
}

pub added-all : (old new more : List ℕ) (link : ℕ) → IsAdded old new more link → length old ≡ link
    → new ≡ map (λ link. slice_index old link + slice_index more link) (numbers (length old))
added-all old new more link is all =
    fill_by_all (λ link. slice_index old link + slice_index more link) new (length old) 0 is.count (λ at lt. is.below at (omega (arith, all)))
