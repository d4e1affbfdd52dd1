-- What differs between two lists.
use Rattle.std.specs.Prelude.{◌≡◌, ℕ, suc, List, [], ◌∷◌, Option, Some, None}

-- from a number on, an entry for each place at which the two lists differ, in rising order, with
-- what the later list has there
pub data Changes {X : Type 0} : ℕ → List X → List X → List (ℕ × X) → Type 0 where
  none : {at : ℕ} → Changes at [] [] []
  same : {at : ℕ} {x : X} {old new : List X} {entries : List (ℕ × X)}
      → Changes (suc at) old new entries → Changes at (x ∷ old) (x ∷ new) entries
  differs : {at : ℕ} {x y : X} {old new : List X} {entries : List (ℕ × X)}
      → (x ≡ y → ⊥) → Changes (suc at) old new entries
      → Changes at (x ∷ old) (y ∷ new) ((at, y) ∷ entries)

-- the later list, where the two differ
abbrev pub IsChanged : {X : Type 0} → List X → List X → Option (List X) → Type 0
IsChanged old new None = old ≡ new
IsChanged old new (Some change) = (old ≡ new → ⊥) × (change ≡ new)
