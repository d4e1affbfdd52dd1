-- The lowest link that is over, by the loads that are kept and by the amounts.
use Rattle.std.proofs.Common.{◌≡◌, ℕ, List, length, ap, arith, slice_index, nat_lt, lt-ltb, le-ltb, Option, Some, None}
use Rattle.bwe_specs.specs.Bounded.{lowest_below}
use Rattle.bwe_specs.specs.Paths.{PathGroups, is_over, lowest_over}
use Rattle.bwe_specs.proofs.Bounds.{some-lowest, none-lowest, lowest-same}
use Rattle.link_sums.specs.Sums.{amount_at, Sums, IsSummedOver, EachLinkFits, IsLowestOver}

-- the lowest link whose load exceeds its capacity
pub lowest_link_over : List ℕ → List ℕ → Option ℕ
lowest_link_over capacities loads = lowest_below (length capacities) (λ link. nat_lt (slice_index capacities link) (slice_index loads link))

pub over-lowest : (capacities loads : List ℕ) (link : ℕ) → IsLowestOver capacities loads link → lowest_link_over capacities loads ≡ Some link
unfolding lowest_link_over
over-lowest capacities loads link is =
    some-lowest (length capacities) (λ l. nat_lt (slice_index capacities l) (slice_index loads l)) link
    (record {
      below = is.in_range;
      passes = lt-ltb (slice_index capacities link) (slice_index loads link) is.over;
      none_lower = λ lower lt. le-ltb (slice_index capacities lower) (slice_index loads lower) (is.lower_fit lower lt);
    })

pub over-none : (capacities loads : List ℕ) → EachLinkFits capacities loads → lowest_link_over capacities loads ≡ None
unfolding lowest_link_over
over-none capacities loads fit =
    none-lowest (length capacities) (λ l. nat_lt (slice_index capacities l) (slice_index loads l))
    (λ link lt. le-ltb (slice_index capacities link) (slice_index loads link) (fit link lt))

-- by the loads it is that of the amounts
pub over-summed : (groups : List PathGroups) (capacities : List ℕ) (sums : Sums) → length sums.loads ≡ length capacities → IsSummedOver groups sums
    → lowest_link_over capacities sums.loads ≡ lowest_over groups capacities (amount_at sums.amounts)
unfolding lowest_over lowest_link_over
over-summed groups capacities sums same summed =
    lowest-same (length capacities) (λ link. nat_lt (slice_index capacities link) (slice_index sums.loads link)) (is_over groups capacities (amount_at sums.amounts))
    (λ link lt. ap (nat_lt (slice_index capacities link)) (summed.loads link (omega (arith, lt, same))))
