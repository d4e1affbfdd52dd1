-- How often groups still move on, and what is counted where one does.
use Rattle.std.specs.Prelude.{ℕ, ◌-◌, List, Option, Some, None, length, if◌then◌else◌}
use Rattle.bwe_specs.specs.declared.network.Closing.{Closing}
use Rattle.bwe_specs.specs.Bounded.{sum_below}
use Rattle.bwe_specs.specs.Paths.{PathGroups, path_group_at, path_group_count, uses}
use Rattle.bwe_specs.specs.Filling.{Wan, current_path_group_of}
use Rattle.mpfa_fill.specs.declared.standing.Standing.{Standing}
use Rattle.mpfa_fill.specs.declared.standing.Standing.TheVariants.{Grows, Stopped}
use Rattle.link_front.specs.Moves.{links_of}
use Rattle.link_solver.specs.Dues.{came_to}

-- the path groups of all groups
abbrev pub path_groups_in : List PathGroups → ℕ
path_groups_in groups = sum_below (length groups) (path_group_count groups)

-- a group still leaves at most the path group on which it grows, and each one after it
abbrev pub places_left : ℕ → Option ℕ → ℕ
places_left count (Some current) = count - current
places_left count None = 0

-- so often a group still moves on at most
abbrev pub places_of : Wan → List Closing → ℕ → ℕ
places_of wan closings group =
    places_left (path_group_count wan.groups group) (current_path_group_of wan closings group)

-- the same of all groups
abbrev pub places_ahead : Wan → List Closing → ℕ
places_ahead wan closings = sum_below (length wan.groups) (places_of wan closings)

-- one move, where the group grew over the closed link
abbrev pub moves_now : List PathGroups → ℕ → Closing → Standing → ℕ
moves_now groups group closing (Grows place value) =
    if uses (path_group_at groups group place) closing.link then 1 else 0
moves_now groups group closing (Stopped at) = 0

-- to so many links the group comes, where it grew over the closed link
abbrev pub links_reached : ℕ → List PathGroups → ℕ → Closing → Standing → Standing → ℕ
links_reached links groups group closing (Grows place value) after =
    if uses (path_group_at groups group place) closing.link
    then links_of links (came_to groups group after)
    else 0
links_reached links groups group closing (Stopped at) after = 0

-- one closing, or none
abbrev pub closings_found : Option Closing → ℕ
closings_found (Some closing) = 1
closings_found None = 0
