-- The groups' standings, as the code reads and writes them.
use Rattle.std.proofs.Common.{◌≡◌, ℕ, zero, suc, ◌+◌, ◌<◌, ◌≤◌, ◌≢◌, List, [], ◌∷◌, length, inl, inr, refl, sym, ◌∙◌, arith, subst, get_or, set}
use Rattle.std.proofs.lemmas.Bool.{cases_eq}
use Rattle.std.proofs.lemmas.List.{get_or-set_same, get_or-set_other}
use Rattle.mpfa_fill.specs.declared.standing.Standing.{Standing}
use Rattle.mpfa_fill.specs.declared.standing.Standing.TheVariants.{Stopped}

-- in range the default does not matter
pub any_default : {A : Type 0} (xs : List A) (i : ℕ) (d e : A) → i < length xs → get_or xs i d ≡ get_or xs i e
any_default [] i d e lt = absurd (omega arith)
any_default (x ∷ xs) zero d e lt = refl
any_default (x ∷ xs) (suc i) d e lt = any_default xs i d e (omega arith)

-- what is known of a group's standing is known of what the code read
pub standing-read : (P : Standing → Type 0) (items : List Standing) (group : ℕ) (d read standing : Standing) → group < length items → read ≡ get_or items group d → read ≡ standing → P (get_or items group (Stopped 0)) → P standing
standing-read P items group d read standing lt is found = subst P (any_default items group (Stopped 0) d lt ∙ sym is ∙ found)

pub standing-back : (P : Standing → Type 0) (items : List Standing) (group : ℕ) (d read standing : Standing) → group < length items → read ≡ get_or items group d → read ≡ standing → P standing → P (get_or items group (Stopped 0))
standing-back P items group d read standing lt is found = subst P (sym (any_default items group (Stopped 0) d lt ∙ sym is ∙ found))

-- one more group stands as it should, where it was written ..
pub gone-written : (P : ℕ → Standing → Type 0) (items : List Standing) (group : ℕ) (new : Standing) → group < length items
    → ((k : ℕ) → k < group → P k (get_or items k (Stopped 0))) → P group new → (k : ℕ) → k < group + 1 → P k (get_or (set items group new) k (Stopped 0))
gone-written P items group new lt before here k below =
    elim (cases_eq k group) [
      | inl e ↦ subst (λ j. P j (get_or (set items group new) j (Stopped 0))) (sym e)
          (subst (P group) (sym (get_or-set_same items group new (Stopped 0) lt)) here)
      | inr other ↦ subst (P k) (sym (get_or-set_other items group k new (Stopped 0) other)) (before k (omega (arith, other)))
    ]

-- .. and the later ones stand as before
pub left-written : (P : ℕ → Standing → Type 0) (items : List Standing) (group count : ℕ) (new : Standing)
    → ((k : ℕ) → group ≤ k → k < count → P k (get_or items k (Stopped 0))) → (k : ℕ) → group + 1 ≤ k → k < count → P k (get_or (set items group new) k (Stopped 0))
left-written P items group count new after k above within =
    let other : k ≢ group = λ e. omega arith in
    subst (P k) (sym (get_or-set_other items group k new (Stopped 0) other)) (after k (omega arith) within)
