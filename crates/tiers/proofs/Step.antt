-- One tier more, as the loop over the tiers fills it.
use Rattle.std.proofs.Common.{◌≡◌, ℕ, ◌+◌, ◌-◌, ◌<◌, ◌≤◌, ◌^◌, List, [], length, map, replicate, slice_index, sym, ap, ◌∙◌, subst, arith}
use Rattle.bwe_specs.specs.declared.limits.TheConstants.{MAX_TOTAL}
use Rattle.bwe_specs.specs.Bounded.{sum_below}
use Rattle.bwe_specs.specs.Paths.{PathGroups}
use Rattle.bwe_specs.specs.Filling.{Wan}
use Rattle.bwe_specs.specs.Reports.{numbers}
use Rattle.bwe_specs.specs.Values.{AreValues, NeverFalls}
use Rattle.mpfa_fill.specs.declared.filling.Filling.{Filling}
use Rattle.mpfa_fill.specs.Filling.{IsFilling}
use Rattle.mpfa_fill.specs.GroupValues.{wan_of}
use Rattle.path_groups.specs.Plan.{IsBuiltOn}
use Rattle.path_groups.proofs.OtherCapacities.{with_capacities, built_on-same}
use Rattle.policy_tree.specs.Trees.{Tree, value_in}
use Rattle.wan_topology.specs.Network.{Network, IsNetwork}
use Rattle.tiers.specs.Tiered.{free_under, amounts_below, wan_of_tier}
use Rattle.tiers.specs.Fillings.{Fillings, IsFilledTo, values_of_tier, wan_by, with_filling}
use Rattle.tiers.proofs.Tiers.{free-none, length-free}
use Rattle.tiers.proofs.Kept.{filled-none, filled-more, next-links, next-fit, next-free, take-links, take-fit}

module _ (tree : Tree) (initial : Network) (groups : List PathGroups) (tiers : List ℕ) (clusters : length tree.clusters ≡ length groups)
    (values : AreValues (length tree.clusters) tree.top (value_in tree)) where
  abbrev wan : Wan
  wan = wan_by tree initial groups

  pub step-never : NeverFalls (wan_by tree initial groups)
  step-never = record { next = values.never_falls }

  pub step-bound : sum_below (length groups) (λ group. value_in tree group tree.top) ≤ MAX_TOTAL
  step-bound = subst (λ count. sum_below count (λ group. value_in tree group tree.top) ≤ MAX_TOTAL) clusters values.together

  pub step-none : IsFilledTo tree initial groups tiers 0 initial (record { closings = []; amounts = []; shares = []; loads = replicate (length initial.capacities) 0 })
  step-none = record {
    filled = filled-none wan tiers step-never step-bound;
    network = ap (with_capacities initial) (sym (free-none wan tiers));
  }

  abbrev none_filled : ℕ → Fillings
  none_filled links = record { closings = []; amounts = []; shares = []; loads = replicate links 0 }

  -- no tier is filled at first, where there are so many links
  pub step-first : (links : ℕ) → links ≡ length initial.capacities → (fillings : Fillings) → fillings ≡ none_filled links → IsFilledTo tree initial groups tiers 0 initial fillings
  step-first links same fillings are = subst (λ fillings. IsFilledTo tree initial groups tiers 0 initial fillings) (sym (are ∙ ap none_filled same)) step-none

  module _ (tier : ℕ) (now : Network) (fillings : Fillings) (is : IsFilledTo tree initial groups tiers tier now fillings) where
    abbrev free : List ℕ
    free = free_under groups initial.capacities (amounts_below wan tiers tier)

    capacities-are : now.capacities ≡ free
    capacities-are = ap (λ (network : Network). network.capacities) is.network

    pub step-built_on : IsBuiltOn initial groups → IsBuiltOn now groups
    step-built_on built_on =
        subst (λ network. IsBuiltOn network groups) (sym is.network)
        (built_on-same initial free groups (length-free groups initial.capacities (amounts_below wan tiers tier)) built_on)

    module _ (filled : Filling) (filling : IsFilling (wan_of (values_of_tier tree tiers tier) groups now.capacities) filled) where
      step-filling : IsFilling (wan_of_tier wan tiers tier) filled
      step-filling = subst (λ capacities. IsFilling (wan_of (values_of_tier tree tiers tier) groups capacities) filled) capacities-are filling

      abbrev loads : List ℕ
      loads = filled.loads.items

      pub step-lower-links : length loads ≡ length now.capacities
      step-lower-links =
          next-links wan tiers step-never step-bound tier filled step-filling ∙ sym (ap (λ (capacities : List ℕ). length capacities) capacities-are)

      pub step-lower-fit : (link : ℕ) → link < length loads → slice_index loads link ≤ slice_index now.capacities link
      step-lower-fit link lt =
          subst (λ (capacities : List ℕ). slice_index loads link ≤ slice_index capacities link) (sym capacities-are)
          (next-fit wan tiers step-never step-bound tier filled step-filling link lt)

      pub step-take-links : length loads ≡ length fillings.loads
      step-take-links = take-links wan tiers step-never step-bound tier filled step-filling fillings is.filled

      pub step-take-fit : IsNetwork initial → (link : ℕ) → link < length loads → slice_index fillings.loads link + slice_index loads link < 2 ^ 64
      step-take-fit network link lt =
          let within : link < length initial.capacities =
          omega (
            arith,
            next-links wan tiers step-never step-bound tier filled step-filling,
            length-free groups initial.capacities (amounts_below wan tiers tier),
          ) in
          omega (
            arith,
            take-fit wan tiers step-never step-bound tier filled step-filling fillings is.filled link lt,
            network.capacities_in_range link 0 within,
          )

      -- the tier is filled too, and the network has what is then left free
      pub step-more : IsFilledTo tree initial groups tiers (tier + 1)
          (with_capacities now (map (λ link. slice_index now.capacities link - slice_index loads link) (numbers (length now.capacities))))
          (with_filling fillings filled)
      step-more = record {
        filled = filled-more wan tiers step-never step-bound tier filled step-filling fillings is.filled;
        network =
            subst (λ (now : Network).
            with_capacities now (map (λ link. slice_index now.capacities link - slice_index loads link) (numbers (length now.capacities)))
            ≡ with_capacities initial (free_under groups initial.capacities (amounts_below wan tiers (tier + 1)))) (sym is.network)
            (ap (with_capacities initial) (next-free wan tiers step-never step-bound tier filled step-filling));
      }

      -- the same of a network and fillings that are these
      pub step-next : (after : Network)
          → after ≡ with_capacities now (map (λ link. slice_index now.capacities link - slice_index loads link) (numbers (length now.capacities)))
          → (kept : Fillings) → kept ≡ with_filling fillings filled → IsFilledTo tree initial groups tiers (tier + 1) after kept
      step-next after after-is kept kept-is =
          subst (λ (after : Network). IsFilledTo tree initial groups tiers (tier + 1) after kept) (sym after-is)
          (subst (λ (kept : Fillings).
          IsFilledTo tree initial groups tiers (tier + 1)
          (with_capacities now (map (λ link. slice_index now.capacities link - slice_index loads link) (numbers (length now.capacities)))) kept) (sym kept-is)
          step-more)
