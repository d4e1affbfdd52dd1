-- How amounts are held: all in one list, group by group, with the place in it at which each group's
-- begin.
use Rattle.std.specs.Prelude.{◌≡◌, ℕ, ◌+◌, ◌-◌, ◌<◌, ◌≤◌, List, length, map, take, drop, slice_index}
use Rattle.std.specs.List.{range_with_len}
use Rattle.bwe_specs.specs.Paths.{PathGroups, path_group_count}

-- the amounts of a group: from its first to the first of the next group
abbrev pub row_held : List ℕ → List ℕ → ℕ → List ℕ
row_held firsts amounts group =
    take (slice_index firsts (group + 1) - slice_index firsts group)
    (drop (slice_index firsts group) amounts)

-- the amounts of all groups; the last of the firsts is where those of the last group end
unfoldable pub rows_held : List ℕ → List ℕ → List (List ℕ)
rows_held firsts amounts = map (row_held firsts amounts) (range_with_len 0 (length firsts - 1))

-- the firsts never fall, so that no amount is one of two groups
abbrev pub NeverFall : List ℕ → Type 0
NeverFall firsts = (lower higher : ℕ) → lower ≤ higher → higher < length firsts
    → slice_index firsts lower ≤ slice_index firsts higher

-- the firsts of the groups of a plan: from one to the next there are as many amounts as the group
-- has path groups
pub record AreFirstsOf (groups : List PathGroups) (firsts : List ℕ) : Type 0 where
  pub size : length firsts ≡ length groups + 1
  pub start : slice_index firsts 0 ≡ 0
  pub each : (group : ℕ) → group < length groups
      → slice_index firsts (group + 1)
      ≡ slice_index firsts group + path_group_count groups group
