-- The loads with which a list of closings ends, and what they bound on the way there.
use Rattle.std.specs.Prelude.{◌≡◌, ℕ, ◌+◌, ◌<◌, ◌≤◌, false, List, length, reverse, IfSome, Some, slice_index}
use Rattle.bwe_specs.specs.declared.network.Closing.{Closing}
use Rattle.bwe_specs.specs.Bounded.{sum_below}
use Rattle.bwe_specs.specs.Paths.{path_group_at, path_group_count, load_on, link_load}
use Rattle.bwe_specs.specs.Filling.{Wan}
use Rattle.bwe_specs.specs.RightClosings.{last_share, amounts_at}
use Rattle.mpfa_fill.specs.LastFit.{is_over_at}
use Rattle.closing_walk.specs.Walk.{closing_at, AreRising}
use Rattle.closing_walk.specs.declared.ends.EndLoads.{EndLoads}

-- what a group puts on a link
abbrev pub group_load : Wan → (ℕ → ℕ → ℕ) → ℕ → ℕ → ℕ
group_load wan amounts link group = sum_below (path_group_count wan.groups group)
    (λ place. load_on (path_group_at wan.groups group place) link (amounts group place))

-- the amounts at the top, once all closings of the list are made
abbrev pub end_amounts : Wan → List Closing → ℕ → ℕ → ℕ
end_amounts wan list = amounts_at wan (reverse list) wan.top

-- the list is in order, each link's load in the end is known, and none is over then
pub record AreEndLoads (wan : Wan) (list : List Closing) (ends : EndLoads) : Type 0 where
  pub each_link : length ends.loads.items ≡ length wan.capacities
  pub each_extra : length ends.extra.items ≡ length wan.capacities
  pub rise : AreRising list (length list)
  pub below : (place : ℕ) → place < length list → (closing_at list place).share < wan.top
  pub loads : (link : ℕ) → link < length wan.capacities
      → slice_index ends.loads.items link ≡ link_load wan.groups (end_amounts wan list) link
  pub fit : (link : ℕ) → link < length wan.capacities
      → is_over_at wan (reverse list) wan.top link ≡ false

-- so many links have these loads at a share, and fit with them
pub record AreLoads (wan : Wan) (closings : List Closing) (share count : ℕ) (items : List ℕ)
    : Type 0 where
  pub each_link : length items ≡ count
  pub loads : (link : ℕ) → link < count
      → slice_index items link ≡ link_load wan.groups (amounts_at wan closings share) link
  pub fit : (link : ℕ) → link < count → is_over_at wan closings share link ≡ false

-- what so many groups put on a link at a share is no more than what they do in the end and the
-- extra of the link, unless that is too much to be known
abbrev pub AreWithin : Wan → List Closing → List Closing → ℕ → List ℕ → ℕ → Type 0
AreWithin wan closings list share extra count = (link : ℕ) → link < length wan.capacities
    → slice_index extra link < 18446744073709551615
    → sum_below count (group_load wan (amounts_at wan closings share) link)
    ≤ sum_below count (group_load wan (end_amounts wan list) link) + slice_index extra link

-- under the closings a link's load at the share is at most that in the end and the extra
pub record IsBounded (wan : Wan) (closings : List Closing) (ends : EndLoads) (share : ℕ)
    : Type 0 where
  pub last : last_share closings ≤ share
  pub within : share ≤ wan.top
  pub most : (link : ℕ) → link < length wan.capacities
      → slice_index ends.extra.items link < 18446744073709551615
      → link_load wan.groups (amounts_at wan closings share) link
      ≤ slice_index ends.loads.items link + slice_index ends.extra.items link

-- so it is at the share up to which the extra is known, if it is known
pub record AreBounds (wan : Wan) (closings : List Closing) (ends : EndLoads) : Type 0 where
  pub each_link : length ends.loads.items ≡ length wan.capacities
  pub each_extra : length ends.extra.items ≡ length wan.capacities
  pub upto : IfSome ends.upto (IsBounded wan closings ends)

-- the share is one up to which the extra is known, and with it the link fits
pub record FitsBy (ends : EndLoads) (link share capacity : ℕ) : Type 0 where
  pub upto : ℕ
  pub is : ends.upto ≡ Some upto
  pub reaches : share ≤ upto
  pub known : slice_index ends.extra.items link < 18446744073709551615
  pub fits : slice_index ends.loads.items link + slice_index ends.extra.items link ≤ capacity
