-- The fillings of tiers, as the code keeps them.
use Rattle.std.specs.Prelude.{◌≡◌, ℕ, ◌+◌, ◌<◌, ◌^◌, List, [], ◌∷◌, ◌++◌, length, map, sum, slice_index, slice_index_or, Vec}
use Rattle.std.proofs.Common.{Global}
use Rattle.bwe_specs.specs.declared.network.Closing.{Closing}
use Rattle.bwe_specs.specs.Paths.{PathGroups, path_group_count, link_load}
use Rattle.bwe_specs.specs.Filling.{Wan, group_stop}
use Rattle.bwe_specs.specs.Reports.{numbers}
use Rattle.bwe_specs.specs.Allocation.{GroupLine}
use Rattle.bwe_specs.specs.Lists.{lists_of}
use Rattle.mpfa_fill.specs.declared.filling.Filling.{Filling}
use Rattle.mpfa_fill.specs.GroupValues.{Values, wan_of}
use Rattle.policy_tree.specs.Trees.{Tree, value_in}
use Rattle.wan_topology.specs.Network.{Network, IsNetwork}
use Rattle.plain_table.specs.Lines.{line_of_group}
use Rattle.plain_table.specs.Values.{values_of}
use Rattle.tiers.specs.Tiered.{free_under, value_in_tier, amounts_below, wan_of_tier}
use Rattle.tiers.specs.Tiered.{filling_of_tier, tier_closings}

-- the values of the groups of a tier, under the demands of the tree
abbrev pub values_of_tier : Tree → List ℕ → ℕ → Values
values_of_tier tree tiers tier =
    record {
      groups = length tree.clusters;
      top = tree.top;
      value = value_in_tier tiers tier (value_in tree);
    }

-- what is filled, were it not for tiers
abbrev pub wan_by : Tree → Network → List PathGroups → Wan
wan_by tree network groups = wan_of (values_of tree) groups network.capacities

-- by tier: the closings, the amounts by group and place, and the stop shares; and each link's load
-- under all of these amounts
pub record Fillings : Type 0 where
  pub closings : List (List Closing)
  pub amounts : List (List (List ℕ))
  pub shares : List (List ℕ)
  pub loads : List ℕ

abbrev pub all_rows_in : List (Vec (Vec ℕ Global) Global) → List (List (List ℕ))
all_rows_in lists = map (λ rows. lists_of rows.items) lists

-- the loads together
abbrev pub added_loads : List ℕ → List ℕ → List ℕ
added_loads loads more =
    map (λ link. slice_index loads link + slice_index more link) (numbers (length loads))

-- with the filling of one tier more
abbrev pub with_filling : Fillings → Filling → Fillings
with_filling fillings filled = record {
  closings = fillings.closings ++ filled.closings.items ∷ [];
  amounts = fillings.amounts ++ lists_of filled.amounts.items ∷ [];
  shares = fillings.shares ++ filled.shares.items ∷ [];
  loads = added_loads fillings.loads filled.loads.items;
}

-- amounts in rows, by group and place
abbrev pub rows_by : List PathGroups → (ℕ → ℕ → ℕ) → List (List ℕ)
rows_by groups amounts =
    map (λ group. map (amounts group) (numbers (path_group_count groups group)))
    (numbers (length groups))

-- the stop shares of a tier's filling
abbrev pub stops_by : Wan → List ℕ → ℕ → List ℕ
stops_by wan tiers tier =
    map (group_stop (wan_of_tier wan tiers tier) (filling_of_tier wan tiers tier))
    (numbers (length wan.groups))

-- the fillings are those of the tiers below one
pub record AreFilled (wan : Wan) (tiers : List ℕ) (tier : ℕ) (fillings : Fillings) : Type 0 where
  pub closings : fillings.closings ≡ map (tier_closings wan tiers) (numbers tier)
  pub amounts : fillings.amounts
      ≡ map (λ tier. rows_by wan.groups (filling_of_tier wan tiers tier).amounts) (numbers tier)
  pub shares : fillings.shares ≡ map (stops_by wan tiers) (numbers tier)
  pub loads : fillings.loads
      ≡ map (link_load wan.groups (amounts_below wan tiers tier)) (numbers (length wan.capacities))

-- the tiers below one are filled, and the network has what they leave free
pub record IsFilledTo (tree : Tree) (initial : Network) (groups : List PathGroups) (tiers : List ℕ)
    (tier : ℕ) (now : Network) (fillings : Fillings) : Type 0 where
  pub filled : AreFilled (wan_by tree initial groups) tiers tier fillings
  pub network : now ≡ record initial {
    capacities = free_under groups initial.capacities
        (amounts_below (wan_by tree initial groups) tiers tier);
  }

-- the same over some network
abbrev pub IsFilledSome : Tree → List PathGroups → List ℕ → ℕ → Network → Fillings → Type 0
IsFilledSome tree groups tiers tier now fillings =
    (initial : Network) × IsNetwork initial × IsFilledTo tree initial groups tiers tier now fillings

-- the amounts of a group in a tier, by place
abbrev pub row_of : Fillings → ℕ → ℕ → List ℕ
row_of fillings tier group = slice_index_or (slice_index_or fillings.amounts tier []) group []

-- what is kept of a group's tier can be read and summed
pub record HasLine (groups : List PathGroups) (fillings : Fillings) (tier group : ℕ) : Type 0 where
  pub closings : tier < length fillings.closings
  pub amounts : tier < length fillings.amounts
  pub shares : tier < length fillings.shares
  pub row : group < length (slice_index_or fillings.amounts tier [])
  pub share : group < length (slice_index_or fillings.shares tier [])
  pub places : length (row_of fillings tier group) ≡ path_group_count groups group
  pub sums : sum (row_of fillings tier group) < 2 ^ 64

-- the line of a group in a tier
abbrev pub line_in_tier : List PathGroups → Fillings → ℕ → ℕ → GroupLine
line_in_tier groups fillings tier group =
    line_of_group groups (slice_index_or fillings.closings tier []) group
    (row_of fillings tier group) (slice_index (slice_index_or fillings.shares tier []) group)
