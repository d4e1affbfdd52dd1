-- The ends between which a search looks for the greatest share at which a sum is at most an amount.
use Rattle.std.specs.Prelude.{◌≡◌, ℕ, ◌+◌, ◌<◌, ◌≤◌, ◌⊎◌}
use Rattle.share_meeting.specs.declared.ends.Ends.{Ends}

-- the sum is at most the amount at the low end, and above it at the high one unless that is past
-- the top
pub record AreEnds (sum : ℕ → ℕ) (amount : ℕ) (ends : Ends) : Type 0 where
  pub order : ends.low < ends.high
  pub upto : ends.high ≤ ends.top + 1
  pub value : ends.at_low ≡ sum ends.low
  pub fits : sum ends.low ≤ amount
  pub over : ends.high ≤ ends.top → amount < sum ends.high

-- one of the ends has moved to a share
abbrev pub HasMoved : Ends → Ends → ℕ → Type 0
HasMoved old new share = ((new.low ≡ share) × (new.high ≡ old.high))
    ⊎ ((new.low ≡ old.low) × (new.high ≡ share))
