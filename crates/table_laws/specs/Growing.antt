-- Who grows over a link at a moment of the filling, and by how much.
use Rattle.std.specs.Prelude.{◌≡◌, ℕ, suc, ◌-◌, List, ◌∷◌, ◌++◌, Some, true}
use Rattle.bwe_specs.specs.declared.network.Closing.{Closing}
use Rattle.bwe_specs.specs.Bounded.{sum_below}
use Rattle.bwe_specs.specs.Paths.{path_group_at, path_group_count, uses, load_on}
use Rattle.bwe_specs.specs.Filling.{Wan, current_path_group_of}
use Rattle.bwe_specs.specs.RightClosings.{amounts_at}

-- the closing is one of the list, which has the newest first; those before it are the earlier ones
pub record StandsIn (closings : List Closing) (closing : Closing) (earlier : List Closing)
    : Type 0 where
  pub later : List Closing
  pub stands : closings ≡ later ++ closing ∷ earlier

-- under these closings the group grows on a path group that uses the link
pub record GrowsOver (wan : Wan) (closings : List Closing) (group link : ℕ) : Type 0 where
  pub place : ℕ
  pub current : current_path_group_of wan closings group ≡ Some place
  pub used : uses (path_group_at wan.groups group place) link ≡ true

-- the load that the group would put on the link with the next whole share, beyond what it has put
-- there at the share
abbrev pub added_load : Wan → List Closing → ℕ → ℕ → ℕ → ℕ
added_load wan closings share link group =
    sum_below (path_group_count wan.groups group) (λ place.
    load_on (path_group_at wan.groups group place) link
    (amounts_at wan closings (suc share) group place)
    - load_on (path_group_at wan.groups group place) link
    (amounts_at wan closings share group place))
