-- Max-min fairness, up to one unit of share, of the lines of a table.
use Rattle.std.specs.Prelude.{◌≡◌, ℕ, suc, ◌-◌, ◌<◌, ◌≤◌, List, ◌∷◌, length, slice_index, slice_index_or, true, Some, None}
use Rattle.bwe_specs.specs.declared.network.Closing.{Closing}
use Rattle.bwe_specs.specs.Paths.{PathGroups, path_group_at, path_group_count, link_load, uses}
use Rattle.bwe_specs.specs.Filling.{Wan, current_path_group_of, group_amount}
use Rattle.bwe_specs.specs.Allocation.{PlaceLine, GroupLine}
use Rattle.table_laws.specs.Growing.{StandsIn}
use Rattle.table_laws.specs.Tables.{line_at}

-- each group has exactly one path group
abbrev pub HasOnePathGroupEach : List PathGroups → Type 0
HasOnePathGroupEach groups = (group : ℕ) → group < length groups
    → path_group_count groups group ≡ 1

-- the amounts where each group has its whole value at a share of its own, on its one path group
abbrev pub values_at : Wan → (ℕ → ℕ) → ℕ → ℕ → ℕ
values_at wan shares = λ group place. wan.value group (shares group)

-- each group's share is at most the top
abbrev pub AreShares : Wan → (ℕ → ℕ) → Type 0
AreShares wan shares = (group : ℕ) → group < length wan.groups → shares group ≤ wan.top

-- an assignment of a share, at most the top, to each group, under which no link's load exceeds its
-- capacity
pub record IsAssignment (wan : Wan) (shares : ℕ → ℕ) : Type 0 where
  pub within : AreShares wan shares
  pub fits : (link : ℕ) → link < length wan.capacities
      → link_load wan.groups (values_at wan shares) link ≤ slice_index wan.capacities link

-- a path group of the group uses the link
pub record IsOver (groups : List PathGroups) (group link : ℕ) : Type 0 where
  pub place : ℕ
  pub there : place < path_group_count groups group
  pub used : uses (path_group_at groups group place) link ≡ true

-- another group over the link stopped no later than the group, and has in the assignment no higher
-- share than in the table. one that stopped earlier has a lower share and a lower amount there; one
-- that stopped at the same share has less than it would have had at the next
pub record HasNoMore (wan : Wan) (shares : ℕ → ℕ) (group other link : ℕ)
    (line other_line : GroupLine) : Type 0 where
  pub there : other < length wan.groups
  pub another : other ≡ group → ⊥
  pub over : IsOver wan.groups other link
  pub no_later : other_line.share ≤ line.share
  pub no_more : shares other ≤ other_line.share
  pub below_next : wan.value other (shares other) < wan.value other (suc other_line.share)
  pub lower : other_line.share < line.share → shares other < other_line.share
  pub less : other_line.share < line.share → wan.value other (shares other) < other_line.amount

-- the line of the one path group of a group
abbrev pub one_place : GroupLine → PlaceLine
one_place line = slice_index_or line.places 0 (record { amount = 0; closed = None })

-- Max-min law of the lines of a table: whoever has a higher share in another assignment has it at
-- the cost of another group over the link that stopped it, which has no more there
abbrev pub IsMaxMin : Wan → List GroupLine → Type 0
IsMaxMin wan lines = (shares : ℕ → ℕ) → IsAssignment wan shares
    → (group : ℕ) → group < length wan.groups → (line_at lines group).share < shares group
    → (link : ℕ) × (other : ℕ) × ((one_place (line_at lines group)).closed ≡ Some link)
    × HasNoMore wan shares group other link (line_at lines group) (line_at lines other)

-- Worst-off law of the lines of a table: in every assignment someone has no higher share than any
-- one group here; so none gives every group more than the least share of the table
abbrev pub IsBestForWorstOff : Wan → List GroupLine → Type 0
IsBestForWorstOff wan lines = (shares : ℕ → ℕ) → IsAssignment wan shares
    → (group : ℕ) → group < length wan.groups
    → (other : ℕ) × (other < length wan.groups) × (shares other ≤ (line_at lines group).share)

-- Level law of the lines of a table: in every assignment under which nobody who stopped before a
-- group has less than here, someone who stopped at the group's share has no more than here
abbrev pub IsBestByLevel : Wan → List GroupLine → Type 0
IsBestByLevel wan lines = (shares : ℕ → ℕ) → IsAssignment wan shares
    → (group : ℕ) → group < length wan.groups
    → ((before : ℕ) → before < length wan.groups
    → (line_at lines before).share < (line_at lines group).share
    → (line_at lines before).share ≤ shares before)
    → (other : ℕ) × (other < length wan.groups)
    × ((line_at lines other).share ≡ (line_at lines group).share)
    × (shares other ≤ (line_at lines other).share)

-- the group stopped on this path group: a closing took it, and left the group none
pub record IsStoppedOn (wan : Wan) (closings : List Closing) (group place : ℕ) : Type 0 where
  pub closing : Closing
  pub earlier : List Closing
  pub stands : StandsIn closings closing earlier
  pub before : current_path_group_of wan earlier group ≡ Some place
  pub after : current_path_group_of wan (closing ∷ earlier) group ≡ None

-- each group over the link uses it by no path group but the one on which it stopped
abbrev pub IsUsedLast : Wan → List Closing → ℕ → Type 0
IsUsedLast wan closings link = (group place : ℕ) → group < length wan.groups
    → place < path_group_count wan.groups group
    → uses (path_group_at wan.groups group place) link ≡ true
    → IsStoppedOn wan closings group place

-- what a path group has where its group has its value at a share of its own, and its other path
-- groups have what these amounts give them
abbrev pub rests_at : Wan → (ℕ → ℕ → ℕ) → (ℕ → ℕ) → ℕ → ℕ → ℕ
rests_at wan amounts shares =
    λ group place. wan.value group (shares group)
    - (group_amount wan amounts group - amounts group place)
