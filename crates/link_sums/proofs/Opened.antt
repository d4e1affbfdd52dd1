-- Sums in which every amount is 0.
use Rattle.std.proofs.Common.{◌≡◌, ℕ, List, length, sym, ◌∙◌, ap, arith, get_or}
use Rattle.bwe_specs.specs.Paths.{PathGroups, path_group_at, path_group_count, load_on}
use Rattle.bwe_specs.proofs.Bounds.{sum_below-zero}
use Rattle.bwe_specs.proofs.Loads.{link_load-same, link_load-zero}
use Rattle.wan_topology.specs.Network.{Network}
use Rattle.path_groups.specs.Plan.{IsPlan, IsBuiltOn}
use Rattle.path_groups.proofs.Uses.{uses-in}
use Rattle.link_sums.specs.Sums.{amount_at, AreRowsOf, total_of, IsSummedOver}

-- sums in which every amount and every load is 0
pub IsSummedOver-open : (network : Network) (groups : List PathGroups) → IsPlan groups → IsBuiltOn network groups → (amounts : List (List ℕ)) (loads : List ℕ) → AreRowsOf groups amounts
    → ((group place : ℕ) → amount_at amounts group place ≡ 0) → length loads ≡ length network.capacities → ((link : ℕ) → get_or loads link 0 ≡ 0)
    → IsSummedOver groups (record { amounts = amounts; loads = loads })
IsSummedOver-open network groups plan built amounts loads rows none count empty = record {
  plan = plan;
  rows = rows;
  total =
      let nothing : total_of groups amounts ≡ 0 = sum_below-zero (length groups) _ (λ group lt. sum_below-zero (path_group_count groups group) _ (λ place within. none group place)) in
      omega (arith, nothing);
  links = λ group place link used. omega (arith, count, uses-in network (path_group_at groups group place) link (built.paths group place) used);
  loads = λ link below.
      empty link ∙ sym (link_load-same groups (amount_at amounts) (λ group place. 0) link (λ group place. ap (load_on (path_group_at groups group place) link) (none group place)) ∙ link_load-zero groups link);
}
