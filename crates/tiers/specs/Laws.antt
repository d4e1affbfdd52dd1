-- What the lower tiers of two tables have in common.
use Rattle.std.specs.Prelude.{◌≡◌, ℕ, ◌<◌, ◌≤◌, List, length, slice_index, slice_index_or, Contains, []}
use Rattle.std.specs.List.{range_with_len}
use Rattle.bwe_specs.specs.Allocation.{Plan}
use Rattle.policy_tree.specs.Trees.{cluster_numbers, task_numbers}
use Rattle.table_laws.specs.Order.{cluster_at, limits_at}
use Rattle.table_laws.specs.Tables.{line_at}
use Rattle.tiers.specs.Tiered.{Tiered, tiered_under}

-- the demands agree on all tasks of groups in tiers up to one
abbrev pub AgreeUpTo : Plan → List ℕ → ℕ → (ℕ → ℕ) → (ℕ → ℕ) → Type 0
AgreeUpTo plan tiers last demand other =
    (group task : ℕ) → group < length plan.clusters → slice_index tiers group ≤ last
    → Contains (cluster_numbers (cluster_at plan group)) task → demand task ≡ other task

-- the tables agree on the closings, the group lines and the limits of tiers up to one
pub record AreEqualUpTo (plan : Plan) (tiers : List ℕ) (last : ℕ) (table other : Tiered)
    : Type 0 where
  pub closings : (tier : ℕ) → tier ≤ last
      → slice_index_or table.tiers tier [] ≡ slice_index_or other.tiers tier []
  pub lines : (group : ℕ) → group < length plan.groups → slice_index tiers group ≤ last
      → line_at table.groups group ≡ line_at other.groups group
  pub limits : (group : ℕ) → group < length plan.groups → slice_index tiers group ≤ last
      → limits_at plan table.limits group ≡ limits_at plan other.limits group

-- no demand of a higher tier matters: two worlds of one plan and tiers that agree on the
-- capacities, and on the demands of all tasks in tiers up to one, agree on the closings, group
-- lines and limits of these tiers
abbrev pub TierPromise : Type 0
TierPromise =
    (plan : Plan) (tiers : List ℕ) (last prefix : ℕ) (capacities : List ℕ) (demand other : ℕ → ℕ)
    → length plan.clusters ≡ length plan.groups → length tiers ≡ length plan.groups
    → task_numbers plan.clusters ≡ range_with_len 0 (length (task_numbers plan.clusters))
    → AgreeUpTo plan tiers last demand other
    → AreEqualUpTo plan tiers last (tiered_under plan prefix demand capacities tiers)
    (tiered_under plan prefix other capacities tiers)
