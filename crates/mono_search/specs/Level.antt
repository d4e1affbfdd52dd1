-- What a level says of shares.
use Rattle.std.specs.Prelude.{◌≡◌, ℕ, ◌<◌, ◌≤◌, Bool, true, false}

-- a test of shares that is never true above a share at which it is false
pub record Falls (fits : ℕ → Bool) : Type 0 where
  pub lower : (share higher : ℕ) → share ≤ higher → fits higher ≡ true → fits share ≡ true

-- the greatest share from low to high that fits
pub record IsGreatestFit (fits : ℕ → Bool) (low high share : ℕ) : Type 0 where
  pub from : low ≤ share
  pub upto : share ≤ high
  pub fit : fits share ≡ true
  pub greatest : (higher : ℕ) → share < higher → higher ≤ high → fits higher ≡ false
