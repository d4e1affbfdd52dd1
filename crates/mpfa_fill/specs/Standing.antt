-- How a group stands under the closings so far.
use Rattle.std.specs.Prelude.{ℕ, ◌<◌, Option, Some, None, List, [], if◌then◌else◌, slice_index_or}
use Rattle.bwe_specs.specs.declared.network.Closing.{Closing}
use Rattle.bwe_specs.specs.Paths.{PathGroups, path_group_at, path_group_count, uses, current_path_group}
use Rattle.mpfa_fill.specs.declared.standing.Standing.{Standing}
use Rattle.mpfa_fill.specs.declared.standing.Standing.TheVariants.{Grows, Stopped}

-- the path group on which the group grows is one of its own
abbrev pub IsPlaced : List PathGroups → ℕ → Standing → Type 0
IsPlaced groups group (Grows place value) = place < path_group_count groups group
IsPlaced groups group (Stopped at) = Unit {0}

-- how a group stands that has so much, on this path group or stopped at the share
abbrev pub standing_of : Option ℕ → ℕ → ℕ → Standing
standing_of (Some place) value share = Grows place value
standing_of None value share = Stopped share

-- how a group stands after one more closing, under all closed links: where its path group uses the
-- link, it goes on with the next one that is open
abbrev pub standing_under : List PathGroups → ℕ → List ℕ → Closing → Standing → Standing
standing_under groups group closed closing (Grows place value) =
    if uses (path_group_at groups group place) closing.link
    then standing_of (current_path_group (slice_index_or groups group []) closed) value
    closing.share
    else Grows place value
standing_under groups group closed closing (Stopped at) = Stopped at

-- where a group stops that still grows at the top, or not
abbrev pub stop_of : ℕ → Standing → ℕ
stop_of top (Grows place value) = top
stop_of top (Stopped share) = share
