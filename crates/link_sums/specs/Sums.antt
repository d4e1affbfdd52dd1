-- Amounts by group and place, and the loads that they put on links.
use Rattle.std.specs.Prelude.{◌≡◌, ℕ, ◌+◌, ◌<◌, ◌≤◌, List, [], length, slice_index, slice_index_or, true}
use Rattle.bwe_specs.specs.declared.limits.TheConstants.{MAX_TOTAL}
use Rattle.bwe_specs.specs.Bounded.{sum_below}
use Rattle.path_groups.specs.Plan.{IsPlan}
use Rattle.bwe_specs.specs.Paths.{PathGroups, path_group_at, path_group_count, uses, link_load}

-- the amount of a group at a place, of all rows; 0 where there is none
abbrev pub amount_at : List (List ℕ) → ℕ → ℕ → ℕ
amount_at rows group place = slice_index (slice_index_or rows group []) place

-- there is a row for each group, and in it an amount for each place
pub record AreRowsOf (groups : List PathGroups) (rows : List (List ℕ)) : Type 0 where
  pub each_group : length rows ≡ length groups
  pub each_place : (group : ℕ) → group < length groups
      → length (slice_index_or rows group []) ≡ path_group_count groups group

-- all amounts together
abbrev pub total_of : List PathGroups → List (List ℕ) → ℕ
total_of groups rows =
    sum_below (length groups)
    (λ group. sum_below (path_group_count groups group) (amount_at rows group))

-- the amount at one place has grown by so much, and each other is as it was
pub record RaisesAmount (old new : List (List ℕ)) (group place more : ℕ) : Type 0 where
  pub raised : amount_at new group place ≡ amount_at old group place + more
  pub others : (group' place' : ℕ) → (group' ≡ group → place' ≡ place → ⊥)
      → amount_at new group' place' ≡ amount_at old group' place'

-- the amounts in rows, and the load of each link
pub record Sums : Type 0 where
  pub amounts : List (List ℕ)
  pub loads : List ℕ

-- the loads are those of the amounts on the path groups of a plan, which are few enough to be
-- summed
pub record IsSummedOver (groups : List PathGroups) (sums : Sums) : Type 0 where
  pub plan : IsPlan groups
  pub rows : AreRowsOf groups sums.amounts
  pub total : total_of groups sums.amounts ≤ MAX_TOTAL
  pub links : (group place link : ℕ) → uses (path_group_at groups group place) link ≡ true
      → link < length sums.loads
  pub loads : (link : ℕ) → link < length sums.loads
      → slice_index sums.loads link ≡ link_load groups (amount_at sums.amounts) link

-- each link below a number fits: its load is within its capacity
abbrev pub EachLinkBelowFits : List ℕ → List ℕ → ℕ → Type 0
EachLinkBelowFits capacities loads link = (lower : ℕ) → lower < link
    → slice_index loads lower ≤ slice_index capacities lower

-- every link fits
abbrev pub EachLinkFits : List ℕ → List ℕ → Type 0
EachLinkFits capacities loads = EachLinkBelowFits capacities loads (length capacities)

-- the link is over, and each lower one fits
pub record IsLowestOver (capacities loads : List ℕ) (link : ℕ) : Type 0 where
  pub in_range : link < length capacities
  pub over : slice_index capacities link < slice_index loads link
  pub lower_fit : EachLinkBelowFits capacities loads link
