-- Tiered allocation: strict tiers from 0 up, each filled over what the tiers below it left free.
use Rattle.std.specs.Prelude.{ℕ, zero, suc, ◌+◌, ◌-◌, Bool, ◌&&◌, ◌==◌, nat_lt, max, List, length, map, flat_map, zip, fold, reverse, slice_index, if◌then◌else◌}
use Rattle.bwe_specs.specs.declared.network.Closing.{Closing}
use Rattle.bwe_specs.specs.Paths.{PathGroups, link_load}
use Rattle.bwe_specs.specs.Filling.{Wan, State, filling, group_amount}
use Rattle.bwe_specs.specs.Tree.{Cluster, cluster_limits}
use Rattle.bwe_specs.specs.Reports.{numbers}
use Rattle.bwe_specs.specs.Allocation.{Plan, GroupLine, group_line, wan_under}

-- the group is one of the tier
abbrev pub is_in_tier : List ℕ → ℕ → ℕ → Bool
is_in_tier tiers tier group = nat_lt group (length tiers) && slice_index tiers group == tier

-- each group of the tier has its value, every other group has 0 at every share
abbrev pub value_in_tier : List ℕ → ℕ → (ℕ → ℕ → ℕ) → ℕ → ℕ → ℕ
value_in_tier tiers tier value group share =
    if is_in_tier tiers tier group then value group share else 0

-- each link's capacity less its load under the amounts
abbrev pub free_under : List PathGroups → List ℕ → (ℕ → ℕ → ℕ) → List ℕ
free_under groups capacities amounts =
    map (λ link. slice_index capacities link - link_load groups amounts link)
    (numbers (length capacities))

-- what is filled for a tier, over what the amounts leave free
abbrev pub wan_over : Wan → List ℕ → ℕ → (ℕ → ℕ → ℕ) → Wan
wan_over wan tiers tier amounts = record {
  top = wan.top;
  value = value_in_tier tiers tier wan.value;
  groups = wan.groups;
  capacities = free_under wan.groups wan.capacities amounts;
}

-- the sum of the amounts of the fillings of all tiers below one
unfoldable pub amounts_below : Wan → List ℕ → ℕ → ℕ → ℕ → ℕ
amounts_below wan tiers zero = λ group place. 0
amounts_below wan tiers (suc tier) =
    λ group place. amounts_below wan tiers tier group place
    + (filling (wan_over wan tiers tier (amounts_below wan tiers tier))).amounts group place

-- what is filled for a tier, and its filling
abbrev pub wan_of_tier : Wan → List ℕ → ℕ → Wan
wan_of_tier wan tiers tier = wan_over wan tiers tier (amounts_below wan tiers tier)

unfoldable pub filling_of_tier : Wan → List ℕ → ℕ → State
filling_of_tier wan tiers tier = filling (wan_of_tier wan tiers tier)

-- how many tiers there are: those from 0 to the greatest one given
abbrev pub tier_count : List ℕ → ℕ
tier_count tiers = fold (λ count tier. max count (tier + 1)) 0 tiers

-- what a group gets on its path groups: the amounts of the filling of its own tier
abbrev pub tiered_amounts : Wan → List ℕ → ℕ → ℕ → ℕ
tiered_amounts wan tiers group = (filling_of_tier wan tiers (slice_index tiers group)).amounts group

-- the line of a group in the filling of its own tier
abbrev pub tiered_line : Wan → List ℕ → ℕ → GroupLine
tiered_line wan tiers group =
    group_line (wan_of_tier wan tiers (slice_index tiers group))
    (filling_of_tier wan tiers (slice_index tiers group)) group

-- the closings of a tier, in their order
abbrev pub tier_closings : Wan → List ℕ → ℕ → List Closing
tier_closings wan tiers tier = reverse (filling_of_tier wan tiers tier).closings

-- a table of tiers: how many reports it covers, the closings of each tier, each task's limit, each
-- group's line, each link's load
pub record Tiered : Type 0 where
  pub prefix : ℕ
  pub tiers : List (List Closing)
  pub limits : List ℕ
  pub groups : List GroupLine
  pub loads : List ℕ

-- the table of what is filled, where the clusters' tasks have these demands
abbrev pub tiered_of : Wan → List Cluster → (ℕ → ℕ) → List ℕ → ℕ → Tiered
tiered_of wan clusters demand tiers prefix = record {
  prefix = prefix;
  tiers = map (tier_closings wan tiers) (numbers (tier_count tiers));
  limits =
      flat_map (λ given. cluster_limits wan.top demand given.0 given.1)
      (zip clusters
      (map (group_amount wan (tiered_amounts wan tiers)) (numbers (length clusters))));
  groups = map (tiered_line wan tiers) (numbers (length wan.groups));
  loads = map (link_load wan.groups (tiered_amounts wan tiers)) (numbers (length wan.capacities));
}

-- the Tiered allocation of a plan under these demands and capacities
unfoldable pub tiered_under : Plan → ℕ → (ℕ → ℕ) → List ℕ → List ℕ → Tiered
tiered_under plan prefix demand capacities tiers =
    tiered_of (wan_under plan demand capacities) plan.clusters demand tiers prefix
