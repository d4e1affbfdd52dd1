-- The laws that an operator asks for first, of a table of tiers.
use Rattle.std.specs.Prelude.{◌≡◌, ℕ, ◌+◌, ◌<◌, List, [], ◌∷◌, length, reverse, slice_index, slice_index_or, Contains, None, true}
use Rattle.bwe_specs.specs.declared.network.Closing.{Closing}
use Rattle.bwe_specs.specs.Bounded.{sum_below}
use Rattle.bwe_specs.specs.Paths.{path_group_at, path_group_count, uses}
use Rattle.bwe_specs.specs.Filling.{Wan, current_path_group_of, group_amount}
use Rattle.bwe_specs.specs.RightClosings.{amounts_at}
use Rattle.policy_tree.specs.Trees.{Tree, demand_in}
use Rattle.table_laws.specs.Tasks.{AreAskedFor}
use Rattle.table_laws.specs.Tables.{line_at}
use Rattle.table_laws.specs.Growing.{StandsIn, GrowsOver, added_load}
use Rattle.tiers.specs.Tiered.{Tiered, tier_count, wan_of_tier}

-- No more than asked: each task's limit is at most its demand, and at most its weight times what
-- its job's task function gives at the top share
abbrev pub IsNoMoreThanAsked : Tree → Tiered → Type 0
IsNoMoreThanAsked tree table = AreAskedFor tree.top (demand_in tree) tree.clusters table.limits

-- the closings of a tier, the newest first
abbrev pub closings_in : Tiered → ℕ → List Closing
closings_in table tier = reverse (slice_index_or table.tiers tier [])

-- The same share: a group's amount is exactly what its function gives at its stop share; at each
-- closing of a tier every group of the tier that then grew over the link stood at the closing's
-- share, and stops there if no path group is left to it
pub record IsShared (wan : Wan) (tiers : List ℕ) (table : Tiered) : Type 0 where
  pub at_stop : (group : ℕ) → 0 < path_group_count wan.groups group
      → (line_at table.groups group).amount ≡ wan.value group (line_at table.groups group).share
  pub at_closing : (tier : ℕ) → tier < tier_count tiers
      → (closing : Closing) (earlier : List Closing)
      → StandsIn (closings_in table tier) closing earlier
      → (group : ℕ) → slice_index tiers group ≡ tier
      → GrowsOver (wan_of_tier wan tiers tier) earlier group closing.link
      → group_amount wan (amounts_at (wan_of_tier wan tiers tier) earlier closing.share) group
      ≡ wan.value group closing.share
  pub stopped : (tier : ℕ) → tier < tier_count tiers → (closing : Closing) (earlier : List Closing)
      → StandsIn (closings_in table tier) closing earlier
      → (group : ℕ) → slice_index tiers group ≡ tier
      → GrowsOver (wan_of_tier wan tiers tier) earlier group closing.link
      → current_path_group_of wan (closing ∷ earlier) group ≡ None
      → (line_at table.groups group).share ≡ closing.share

-- No waste: where a group has less than it may have at the top, each of its path groups uses a link
-- that its tier closed; on a link that a tier closed the load of all tiers, and what the groups of
-- the tier that then grew over the link would have put there with the next whole share, exceed the
-- capacity
pub record IsUnwasted (wan : Wan) (tiers : List ℕ) (table : Tiered) : Type 0 where
  pub held : (group place : ℕ) → place < path_group_count wan.groups group
      → (line_at table.groups group).amount < wan.value group wan.top
      → (closing : Closing) × Contains (closings_in table (slice_index tiers group)) closing
      × (uses (path_group_at wan.groups group place) closing.link ≡ true)
  pub little_left : (tier : ℕ) → tier < tier_count tiers
      → (closing : Closing) (earlier : List Closing)
      → StandsIn (closings_in table tier) closing earlier
      → slice_index wan.capacities closing.link
      < slice_index table.loads closing.link
      + sum_below (length wan.groups)
      (added_load (wan_of_tier wan tiers tier) earlier closing.share closing.link)
