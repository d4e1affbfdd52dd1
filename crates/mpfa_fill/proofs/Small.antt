-- No amount is great.
use Rattle.std.proofs.Common.{ℕ, ◌<◌, ◌≤◌, List, length, arith, le_refl}
use Rattle.bwe_specs.specs.declared.limits.TheConstants.{MAX_TOTAL}
use Rattle.bwe_specs.specs.declared.network.Closing.{Closing}
use Rattle.bwe_specs.specs.Bounded.{sum_below}
use Rattle.bwe_specs.specs.Filling.{Wan}
use Rattle.bwe_specs.specs.Paths.{PathGroups, path_group_at, path_group_count, load_on}
use Rattle.bwe_specs.specs.RightClosings.{last_share, amounts_at}
use Rattle.bwe_specs.specs.Values.{NeverFalls}
use Rattle.bwe_specs.proofs.Bounds.{sum_below-term}
use Rattle.bwe_specs.proofs.Growth.{value-mono}
use Rattle.link_sums.specs.Sums.{Sums, amount_at, IsSummedOver}
use Rattle.link_sums.proofs.Totals.{link_load-le, load_on-le_link_load}
use Rattle.mpfa_fill.specs.Growth.{AreInOrder}
use Rattle.mpfa_fill.proofs.Order.{group-le}

pub added-small : (groups : List PathGroups) (sums : Sums) → IsSummedOver groups sums → (group place : ℕ) → group < length groups → place < path_group_count groups group → amount_at sums.amounts group place ≤ MAX_TOTAL
added-small groups sums summed group place lt inside =
    omega (
      arith,
      summed.total,
      sum_below-term (length groups) group (λ h. sum_below (path_group_count groups h) (amount_at sums.amounts h)) lt,
      sum_below-term (path_group_count groups group) place (amount_at sums.amounts group) inside,
    )

-- nor is what it puts on a link
pub held-small : (groups : List PathGroups) (sums : Sums) → IsSummedOver groups sums → (link group place : ℕ) → group < length groups → place < path_group_count groups group → load_on (path_group_at groups group place) link (amount_at sums.amounts group place) ≤ MAX_TOTAL
held-small groups sums summed link group place lt inside =
    omega (
      arith,
      summed.total,
      link_load-le groups summed.plan sums.amounts link,
      load_on-le_link_load groups sums.amounts group place link lt inside,
    )

-- no amount is above the group's value, and no value is above all values at the top
pub amount-small : (wan : Wan) → NeverFalls wan → (closings : List Closing) → AreInOrder wan closings → sum_below (length wan.groups) (λ group. wan.value group wan.top) ≤ MAX_TOTAL → (share group place : ℕ) → last_share closings ≤ share → share ≤ wan.top
    → group < length wan.groups → place < path_group_count wan.groups group → (amounts_at wan closings share group place ≤ wan.value group share) × (wan.value group share ≤ MAX_TOTAL)
amount-small wan never closings order together share group place after upto lt inside =
    let amount = sum_below-term (path_group_count wan.groups group) place (amounts_at wan closings share group) inside in
    let all = sum_below-term (length wan.groups) group (λ g. wan.value g wan.top) lt in
    (omega (arith, amount, group-le wan never group closings share order after upto), omega (arith, all, together, value-mono wan never group share wan.top upto (le_refl wan.top)))
