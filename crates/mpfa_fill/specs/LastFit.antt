-- One link by itself, as the share goes on under the same closings.
use Rattle.std.specs.Prelude.{◌≡◌, ℕ, suc, ◌<◌, ◌≤◌, Bool, true, false, List, Some}
use Rattle.bwe_specs.specs.declared.network.Closing.{Closing}
use Rattle.bwe_specs.specs.Paths.{path_group_at, uses, is_over}
use Rattle.bwe_specs.specs.Filling.{Wan, current_path_group_of}
use Rattle.bwe_specs.specs.RightClosings.{amounts_at}

-- the link is over at a share under the closings
abbrev pub is_over_at : Wan → List Closing → ℕ → ℕ → Bool
is_over_at wan closings share link =
    is_over wan.groups wan.capacities (amounts_at wan closings share) link

-- the greatest share from low to high at which the link by itself fits; at low it is not asked
pub record IsLastFit (wan : Wan) (closings : List Closing) (link low high share : ℕ) : Type 0 where
  pub from : low ≤ share
  pub upto : share ≤ high
  pub fits : low < share → is_over_at wan closings share link ≡ false
  pub over_next : share < high → is_over_at wan closings (suc share) link ≡ true

-- the group does not grow over the link
abbrev pub GrowsNotOver : Wan → List Closing → ℕ → ℕ → Type 0
GrowsNotOver wan closings link group = (place : ℕ)
    → current_path_group_of wan closings group ≡ Some place
    → uses (path_group_at wan.groups group place) link ≡ false

-- it grows over the link on this path group
abbrev pub GrowsOver : Wan → List Closing → ℕ → ℕ → ℕ → Type 0
GrowsOver wan closings link group place =
    (current_path_group_of wan closings group ≡ Some place)
    × (uses (path_group_at wan.groups group place) link ≡ true)
