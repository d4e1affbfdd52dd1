-- How often groups still come to path groups and leave them, and over how many links.
use Rattle.std.specs.Prelude.{ℕ, ◌*◌, List, length, Option, Some, None, if◌then◌else◌, nat_lt, nat_eq}
use Rattle.bwe_specs.specs.declared.network.Closing.{Closing}
use Rattle.bwe_specs.specs.Bounded.{sum_below}
use Rattle.bwe_specs.specs.Paths.{PathGroup, PathGroups, path_group_at, path_group_count, uses}
use Rattle.bwe_specs.specs.Filling.{Wan, current_path_group_of}

-- so many of the links the path group uses
abbrev pub links_of : ℕ → PathGroup → ℕ
links_of links path_group = sum_below links (λ link. if uses path_group link then 1 else 0)

-- the links of all path groups of all groups, each as often as a path group uses it
abbrev pub links_over_all : ℕ → List PathGroups → ℕ
links_over_all links groups =
    sum_below (length groups)
    (λ group. sum_below (path_group_count groups group)
    (λ place. links_of links (path_group_at groups group place)))

-- how often a group still comes to one of its path groups or leaves it: none comes back to an
-- earlier one
abbrev pub moves_at : Option ℕ → ℕ → ℕ
moves_at None place = 0
moves_at (Some current) place =
    if nat_lt place current then 0 else if nat_eq place current then 1 else 2

-- over so many links the group still comes to path groups and leaves them
abbrev pub moves_of : Wan → List Closing → ℕ → ℕ
moves_of wan closings group = sum_below (path_group_count wan.groups group)
    (λ place. moves_at (current_path_group_of wan closings group) place * links_of
    (length wan.capacities) (path_group_at wan.groups group place))

-- the same of all groups
abbrev pub moves_ahead : Wan → List Closing → ℕ
moves_ahead wan closings = sum_below (length wan.groups) (moves_of wan closings)
