-- The row of a group, by its filling.
use Rattle.std.specs.Prelude.{◌≡◌, ℕ, ◌<◌, ◌^◌, List, [], length, map, reverse, slice_index, slice_index_or, sum}
use Rattle.bwe_specs.specs.declared.network.Closing.{Closing}
use Rattle.bwe_specs.specs.Paths.{PathGroups, path_group_at, path_group_count}
use Rattle.bwe_specs.specs.Filling.{closed_by}
use Rattle.bwe_specs.specs.Reports.{numbers}
use Rattle.bwe_specs.specs.Allocation.{PlaceLine, GroupLine}
use Rattle.mpfa_fill.specs.declared.filling.Filling.{Filling}
use Rattle.bwe_specs.specs.Lists.{lists_of}
use Rattle.mpfa_fill.specs.Rows.{AreShaped}

-- the row of a path group: its amount, and the link of the first of the closings, in their order,
-- that it uses
abbrev pub line_of_place : List PathGroups → List Closing → ℕ → List ℕ → ℕ → PlaceLine
line_of_place groups closings group amounts place =
    record {
      amount = slice_index amounts place;
      closed = closed_by (path_group_at groups group place) (reverse closings);
    }

-- the row of a group with so much on each of its path groups, which stopped at a share
abbrev pub line_of_group : List PathGroups → List Closing → ℕ → List ℕ → ℕ → GroupLine
line_of_group groups closings group amounts share = record {
  share = share;
  amount = sum amounts;
  places = map (line_of_place groups closings group amounts)
      (numbers (path_group_count groups group));
}

-- the row of a group of a filling
abbrev pub line_in : List PathGroups → Filling → ℕ → GroupLine
line_in groups filled group =
    line_of_group groups filled.closings.items group
    (slice_index_or (lists_of filled.amounts.items) group [])
    (slice_index filled.shares.items group)

-- the amounts of each group of a filling can be summed
pub record HasRows (groups : List PathGroups) (filled : Filling) : Type 0 where
  pub rows : AreShaped groups filled.amounts.items
  pub shares : length filled.shares.items ≡ length groups
  pub sums : (group : ℕ) → group < length groups
      → sum (slice_index_or (lists_of filled.amounts.items) group []) < 2 ^ 64
