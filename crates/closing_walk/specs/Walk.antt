-- Closings that are walked over, each link looked at only where its load changes.
use Rattle.std.specs.Prelude.{◌≡◌, ℕ, suc, ◌+◌, ◌<◌, ◌≤◌, true, false, List, [], ◌∷◌, length, if◌then◌else◌, nat_lt, nat_eq, slice_index, slice_index_or}
use Rattle.std.specs.List.{list_any}
use Rattle.bwe_specs.specs.declared.network.Closing.{Closing}
use Rattle.bwe_specs.specs.Paths.{path_group_at, uses}
use Rattle.bwe_specs.specs.Filling.{Wan, closed_links, current_path_group_of, is_at}
use Rattle.bwe_specs.specs.RightClosings.{last_share, AreRight}
use Rattle.mpfa_fill.specs.LastFit.{is_over_at}

-- the greatest share at which a link has to fit where the closing is the next: one past the
-- closing's, where a link of a higher number closes
abbrev pub need : Closing → ℕ → ℕ
need closing link = closing.share + (if nat_lt link closing.link then 1 else 0)

-- at each closing the link fit as far as it had to, with the earlier ones in force
abbrev pub HasFit : Wan → List Closing → ℕ → Type 0
HasFit wan [] link = Unit {0}
HasFit wan (closing ∷ earlier) link = HasFit wan earlier link
    × (is_over_at wan earlier (need closing link) link ≡ false)

-- the closing is of an open link that is over at the next share, and it is in order
pub record IsNamed (wan : Wan) (earlier : List Closing) (closing : Closing) : Type 0 where
  pub link_exists : closing.link < length wan.capacities
  pub not_closed : list_any (nat_eq closing.link) (closed_links earlier) ≡ false
  pub share_keeps : last_share earlier ≤ closing.share
  pub below_top : closing.share < wan.top
  pub over_at_next : is_over_at wan earlier (suc closing.share) closing.link ≡ true

-- each closing is so; the newest is first
abbrev pub AreNamed : Wan → List Closing → Type 0
AreNamed wan [] = Unit {0}
AreNamed wan (closing ∷ earlier) = AreNamed wan earlier × IsNamed wan earlier closing

-- the closing of a place in the list
abbrev pub closing_at : List Closing → ℕ → Closing
closing_at list place = slice_index_or list place (record { link = 0; share = 0 })

-- the shares at the places below an end do not fall
abbrev pub AreRising : List Closing → ℕ → Type 0
AreRising list end = (place later : ℕ) → place ≤ later → later < end
    → (closing_at list place).share ≤ (closing_at list later).share

-- and they are below the top
pub record IsOrdered (wan : Wan) (list : List Closing) (end : ℕ) : Type 0 where
  pub rise : AreRising list end
  pub below : (place : ℕ) → place < end → (closing_at list place).share < wan.top

-- the share is what the link needs, at the places of the list from one on and below another
abbrev pub Reaches : List Closing → ℕ → ℕ → ℕ → ℕ → Type 0
Reaches list from end link share = (place : ℕ) → from ≤ place → place < end
    → need (closing_at list place) link ≤ share

-- where the link fits at a share that it needs at the places from one on, it has fit all along
abbrev pub Owes : Wan → List Closing → List Closing → ℕ → ℕ → ℕ → Type 0
Owes wan closings list end link from = (share : ℕ) → last_share closings ≤ share → share ≤ wan.top
    → Reaches list from end link share → is_over_at wan closings share link ≡ false
    → HasFit wan closings link

-- where the closings are right, the link fits as far as it needs at the places from one on
abbrev pub Fits : Wan → List Closing → List Closing → ℕ → ℕ → ℕ → Type 0
Fits wan closings list end link from = AreRight wan closings → (place : ℕ) → from ≤ place
    → place < end → last_share closings ≤ need (closing_at list place) link
    → is_over_at wan closings (need (closing_at list place) link) link ≡ false

-- the place of the list from which on a link was not looked at
abbrev pub from_at : List ℕ → ℕ → ℕ
from_at froms link = slice_index froms link

-- each link owes looks from its place on, before the closing at a place; one whose place is past
-- that has fit up to this closing
pub record AreOwing (wan : Wan) (closings list : List Closing) (at : ℕ) (froms : List ℕ)
    : Type 0 where
  pub each_link : length froms ≡ length wan.capacities
  pub upto : (link : ℕ) → from_at froms link ≤ suc at
  pub owes : (link : ℕ) → link < length wan.capacities → from_at froms link ≤ at
      → Owes wan closings list at link (from_at froms link)
  pub fits : (link : ℕ) → link < length wan.capacities → from_at froms link ≤ at
      → Fits wan closings list at link (from_at froms link)
  pub settled : (link : ℕ) → link < length wan.capacities → at < from_at froms link
      → HasFit wan (closing_at list at ∷ closings) link

-- they still do, and links that have fit up to this closing still have; the others were not looked
-- at
pub record Settles (wan : Wan) (closings list : List Closing) (at : ℕ) (old new : List ℕ)
    : Type 0 where
  pub owing : AreOwing wan closings list at new
  pub keeps : (link : ℕ) → at < from_at old link → at < from_at new link
  pub same : (link : ℕ) → from_at new link ≤ at → from_at new link ≡ from_at old link

-- at one of the places from one on the link needs more than the share of the closing
abbrev pub IsHigh : List Closing → ℕ → ℕ → ℕ → Type 0
IsHigh list at link from = (place : ℕ) × (from ≤ place) × (place ≤ at)
    × ((closing_at list at).share < need (closing_at list place) link)

-- the closing takes the group from no path group over the link; and it brings it to none, if the
-- link needs more than the share of the closing
pub record StaysOff (wan : Wan) (earlier list : List Closing) (at link from group : ℕ)
    : Type 0 where
  pub leaves : (place : ℕ) → uses (path_group_at wan.groups group place) link ≡ true
      → is_at (current_path_group_of wan earlier group) place ≡ true
      → is_at (current_path_group_of wan (closing_at list at ∷ earlier) group) place ≡ true
  pub enters : IsHigh list at link from → (place : ℕ)
      → uses (path_group_at wan.groups group place) link ≡ true
      → is_at (current_path_group_of wan (closing_at list at ∷ earlier) group) place ≡ true
      → is_at (current_path_group_of wan earlier group) place ≡ true

-- so it is with each group below a number, for each link that was not looked at
abbrev pub StayOff : Wan → List Closing → List Closing → ℕ → List ℕ → ℕ → Type 0
StayOff wan earlier list at froms count = (group link : ℕ) → group < count
    → from_at froms link ≤ at → StaysOff wan earlier list at link (from_at froms link) group

-- the walk has come to a place of the list
pub record IsWalked (wan : Wan) (closings list : List Closing) (at : ℕ) (froms : List ℕ)
    : Type 0 where
  pub named : AreNamed wan closings
  pub rise : AreRising list at
  pub last : (place : ℕ) → place < at → (closing_at list place).share ≤ last_share closings
  pub below : (place : ℕ) → place < at → (closing_at list place).share < wan.top
  pub each_link : length froms ≡ length wan.capacities
  pub upto : (link : ℕ) → from_at froms link ≤ at
  pub owes : (link : ℕ) → link < length wan.capacities
      → Owes wan closings list at link (from_at froms link)
  pub fits : (link : ℕ) → link < length wan.capacities
      → Fits wan closings list at link (from_at froms link)

-- the closing of the place comes next in order: it is below the top, and no earlier one has a
-- greater share
pub record IsAt (wan : Wan) (closings list : List Closing) (at : ℕ) : Type 0 where
  pub in_range : at < length list
  pub rise : AreRising list (suc at)
  pub keeps : last_share closings ≤ (closing_at list at).share
  pub below : (closing_at list at).share < wan.top

-- the share is just what the link needs at one of the places from one up to another
abbrev pub IsNeeded : List Closing → ℕ → ℕ → ℕ → ℕ → Type 0
IsNeeded list from at link share = (place : ℕ) × (from ≤ place) × (place ≤ at)
    × (need (closing_at list place) link ≡ share)
