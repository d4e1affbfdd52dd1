-- Changes that are found one place after another, and written in turn.
use Rattle.std.proofs.Common.{◌≡◌, ℕ, zero, suc, ◌+◌, ◌<◌, List, [], ◌∷◌, ◌++◌, length, take, get_or, set, refl, sym, ◌∙◌, arith, append_assoc, add-zero, length-append}
use Rattle.std.proofs.lemmas.List.{take_more, set_at, length-take-le, get_or_default}
use Rattle.demand_book.specs.Changes.{Changes, none, same, differs}

module _ {X : Type 0} where
  -- one more place at which the two do not differ
  pub changes-same : {at : ℕ} {old new : List X} {entries : List (ℕ × X)} (x : X)
      → Changes at old new entries → Changes at (old ++ x ∷ []) (new ++ x ∷ []) entries
  changes-same x none = same none
  changes-same x (same rest) = same (changes-same x rest)
  changes-same x (differs unlike rest) = differs unlike (changes-same x rest)

  -- one more place at which they do
  pub changes-differs : {at : ℕ} {old new : List X} {entries : List (ℕ × X)} (x y : X) (place : ℕ) → place ≡ at + length old
      → (x ≡ y → ⊥) → Changes at old new entries → Changes at (old ++ x ∷ []) (new ++ y ∷ []) (entries ++ (place, y) ∷ [])
  changes-differs {at = at} x y place is unlike none = rw (is, add-zero at) (differs unlike none)
  changes-differs x y place is unlike (same rest) = same (changes-differs x y place (omega arith) unlike rest)
  changes-differs x y place is unlike (differs other rest) = differs other (changes-differs x y place (omega arith) unlike rest)

  -- the list with each entry written to its place
  abbrev pub written : List (ℕ × X) → List X → List X
  written [] xs = xs
  written (entry ∷ entries) xs = written entries (set xs entry.0 entry.1)

  -- changes that are written make the later list
  pub written-changes : {at : ℕ} {old new : List X} {entries : List (ℕ × X)} → Changes at old new entries
      → (front : List X) → length front ≡ at → written entries (front ++ old) ≡ front ++ new
  written-changes none front is = refl
  written-changes (same {x = x} {old = old} {new = new} rest) front is =
      rw (← append_assoc front (x ∷ []) old, ← append_assoc front (x ∷ []) new)
      (written-changes rest (front ++ x ∷ []) (omega (arith, length-append front (x ∷ []), is)))
  written-changes (differs {x = x} {y = y} {old = old} {new = new} unlike rest) front is =
      rw (set_at front x old y _ is, ← append_assoc front (y ∷ []) old, ← append_assoc front (y ∷ []) new)
      (written-changes rest (front ++ y ∷ []) (omega (arith, length-append front (y ∷ []), is)))

  -- each entry has its place in the list
  pub entry_in_range : {at : ℕ} {old new : List X} {entries : List (ℕ × X)} → Changes at old new entries
      → (k : ℕ) (default : ℕ × X) → k < length entries → (get_or entries k default).0 < at + length old
  entry_in_range none k default within = absurd (omega arith)
  entry_in_range (same rest) k default within = omega (arith, entry_in_range rest k default within)
  entry_in_range (differs unlike rest) zero default within = omega arith
  entry_in_range (differs unlike rest) (suc k) default within = omega (arith, entry_in_range rest k default (omega arith))

  pub written-append : (entries : List (ℕ × X)) (entry : ℕ × X) (xs : List X) → written (entries ++ entry ∷ []) xs ≡ set (written entries xs) entry.0 entry.1
  written-append [] entry xs = refl
  written-append (first ∷ entries) entry xs = written-append entries entry (set xs first.0 first.1)

  -- one more place of two lists, where they have the same, and where they have not
  pub next-same : (old new : List X) (entries : List (ℕ × X)) (at : ℕ) (x y : X) → at < length old → at < length new
      → x ≡ get_or old at x → y ≡ get_or new at y → x ≡ y → Changes 0 (take at old) (take at new) entries
      → Changes 0 (take (at + 1) old) (take (at + 1) new) entries
  next-same old new entries at x y in_old in_new x-is y-is same-is changes =
      rw (take_more old at x in_old, take_more new at y in_new, ← x-is, ← y-is, ← same-is) (changes-same x changes)

  pub next-differs : (old new : List X) (entries : List (ℕ × X)) (at : ℕ) (x y : X) → at < length old → at < length new
      → x ≡ get_or old at x → y ≡ get_or new at y → (x ≡ y → ⊥) → Changes 0 (take at old) (take at new) entries
      → Changes 0 (take (at + 1) old) (take (at + 1) new) (entries ++ (at, y) ∷ [])
  next-differs old new entries at x y in_old in_new x-is y-is unlike changes =
      rw (take_more old at x in_old, take_more new at y in_new, ← x-is, ← y-is)
      (changes-differs x y at (omega (arith, length-take-le at old (omega arith))) unlike changes)

  -- two reads at one place
  pub same_read : (xs : List X) (at : ℕ) (x y : X) → at < length xs → x ≡ get_or xs at x → y ≡ get_or xs at y → x ≡ y
  same_read xs at x y within x-is y-is = x-is ∙ get_or_default xs at x y within ∙ sym y-is
