-- How many of the known bytes a call took, or appended.
use Rattle.std.specs.Prelude.{◌≡◌, ℕ, ◌≤◌, List, length, take, Option}
use Rattle.std.specs.Io.KnownBytes.{Consumes, Appends}

-- so many of the known bytes are gone from the front
abbrev pub Takes : ℕ → Option (List ℕ) → Option (List ℕ) → Type 0
Takes count old new = (bytes : List ℕ) × Consumes old new bytes × (length bytes ≡ count)

-- at most so many are
abbrev pub TakesAtMost : ℕ → Option (List ℕ) → Option (List ℕ) → Type 0
TakesAtMost limit old new = (bytes : List ℕ) × Consumes old new bytes × (length bytes ≤ limit)

-- known bytes grew by the first of these, all of them or fewer
abbrev pub AppendsPrefix : Option (List ℕ) → Option (List ℕ) → List ℕ → Type 0
AppendsPrefix old new bytes = (count : ℕ) × (count ≤ length bytes)
    × Appends old new (take count bytes)
