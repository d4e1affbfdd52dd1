-- Nobody's place matters in a table of tiers either.
use Rattle.std.specs.Prelude.{◌≡◌, ℕ, ◌<◌, List, length, map, slice_index}
use Rattle.bwe_specs.specs.Reports.{numbers}
use Rattle.bwe_specs.specs.Allocation.{Plan}
use Rattle.table_laws.specs.Tasks.{AreNumbered}
use Rattle.table_laws.specs.Tables.{line_at}
use Rattle.table_laws.specs.Order.{IsOrder, limits_at, reordered}
use Rattle.tiers.specs.Tiered.{Tiered, tiered_under}

-- the tiers of the groups in another order
abbrev pub tiers_reordered : (ℕ → ℕ) → List ℕ → List ℕ
tiers_reordered group_at tiers =
    map (λ place. slice_index tiers (group_at place)) (numbers (length tiers))

-- each group has the same line and its tasks the same limits, wherever it stands; loads and the
-- closings of each tier are the same
pub record AreAlike (plan other : Plan) (group_at : ℕ → ℕ) (table moved : Tiered) : Type 0 where
  pub lines : (place : ℕ) → place < length plan.groups
      → line_at moved.groups place ≡ line_at table.groups (group_at place)
  pub limits : (place : ℕ) → place < length plan.groups
      → limits_at other moved.limits place ≡ limits_at plan table.limits (group_at place)
  pub loads : moved.loads ≡ table.loads
  pub closings : moved.tiers ≡ table.tiers

-- Nobody's place matters: the table of tiers of every plan that has the groups in another order,
-- with their tiers and their tasks, which then may have other numbers and ask for the same, is this
-- one in that order
abbrev pub IsInAnyOrder : Plan → ℕ → (ℕ → ℕ) → List ℕ → List ℕ → Tiered → Type 0
IsInAnyOrder plan prefix demand capacities tiers table = (group_at place_of renumber other : ℕ → ℕ)
    → IsOrder (length plan.groups) group_at place_of
    → AreNumbered (reordered group_at renumber plan).clusters
    → ((task : ℕ) → other (renumber task) ≡ demand task)
    → AreAlike plan (reordered group_at renumber plan) group_at table
    (tiered_under (reordered group_at renumber plan) prefix other capacities
    (tiers_reordered group_at tiers))
