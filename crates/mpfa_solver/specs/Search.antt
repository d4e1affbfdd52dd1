-- The search for the next share at which a link closes.
use Rattle.std.specs.Prelude.{◌≡◌, ℕ, ◌<◌, ◌≤◌, Bool, false, length, All, ◌&&◌, ◌||◌, List, [], nat_le, is_none, true, Option, Some, None}
use Rattle.bwe_specs.specs.declared.network.Closing.{Closing}
use Rattle.bwe_specs.specs.Filling.{Wan}
use Rattle.bwe_specs.specs.RightClosings.{last_share, over_at}
use Rattle.mpfa_fill.specs.GroupValues.{Values}
use Rattle.mpfa_fill.specs.Moment.{IsMoment, wan_in, state_of}
use Rattle.mpfa_fill.specs.declared.moment.Moment.{Moment}

-- every link fits at the share, in a search that begins at a lower one
abbrev pub fits_from : Wan → List Closing → ℕ → ℕ → Bool
fits_from wan closings low share =
    nat_le share low || (nat_le share wan.top && is_none (over_at wan closings share))

-- what is filled where nothing is
abbrev pub no_wan : Wan
no_wan = record { top = 0; value = λ group share. 0; groups = []; capacities = [] }

-- a moment under these closings, which are followed from a share up to the top
pub record IsRise {V : Type 0} (meaning : V → Values) (wan : Wan) (closings : List Closing)
    (from : ℕ) (moment : Moment V) (low top : ℕ) : Type 0 where
  pub is_moment : IsMoment meaning moment
  pub same_wan : wan_in meaning moment ≡ wan
  pub same_closings : (state_of moment).closings ≡ closings
  pub same_low : low ≡ from
  pub same_top : top ≡ wan.top
  pub last : last_share closings ≤ from
  pub within : from ≤ wan.top

-- no share above it fits
pub record IsBound (fits : ℕ → Bool) (low top bound : ℕ) : Type 0 where
  pub from : low ≤ bound
  pub upto : bound ≤ top
  pub none_above : (share : ℕ) → bound < share → share ≤ top → fits share ≡ false

-- what a test at a share tells: that it fits, or a bound below it
abbrev pub Tells : (ℕ → Bool) → ℕ → ℕ → ℕ → Option ℕ → Type 0
Tells fits low top share None = fits share ≡ true
Tells fits low top share (Some bound) = IsBound fits low top bound × (bound < share)

-- they are numbers of links of what is filled
abbrev pub AreLinks : Wan → List ℕ → Type 0
AreLinks wan links = All (λ link. link < length wan.capacities) links
