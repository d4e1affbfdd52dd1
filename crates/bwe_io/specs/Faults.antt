-- What a count of faults tells.
use Rattle.std.specs.Prelude.{◌≡◌, ◌⊎◌, ℕ, ◌<◌}

-- the last value of a count, where it stays
abbrev pub last_count : ℕ
last_count = 18_446_744_073_709_551_615

-- a count that starts at 0 has risen over a call, or stood at its last value before
abbrev pub HasRisen : ℕ → ℕ → Type 0
HasRisen before after = (before < after) ⊎ (after ≡ last_count)
