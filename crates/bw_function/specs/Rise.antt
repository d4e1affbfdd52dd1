-- How much a value rises from each share to the next.
use Rattle.std.specs.Prelude.{ℕ, ◌+◌, ◌≤◌}

-- from each share to the next it rises by at most so much
abbrev pub RisesAtMost : (ℕ → ℕ) → ℕ → Type 0
RisesAtMost value most = (share : ℕ) → value (share + 1) ≤ value share + most
