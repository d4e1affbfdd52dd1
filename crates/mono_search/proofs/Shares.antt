-- What a level says above a share that does not fit.
use Rattle.std.proofs.Common.{◌≡◌, ℕ, ◌≤◌, Bool, true, false, refl}
use Rattle.mono_search.specs.Level.{Falls}

-- what does not fit does not fit above
pub above_false : (fits : ℕ → Bool) → Falls fits → (share higher : ℕ) → share ≤ higher → fits share ≡ false → fits higher ≡ false
above_false fits falls share higher le none = go (fits higher) refl where
  go : (answer : Bool) → fits higher ≡ answer → answer ≡ false
  go false is = refl
  go true is = let yes : fits share ≡ true = falls.lower share higher le is in absurd (cc)
