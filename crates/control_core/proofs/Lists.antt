-- What holds at each place of a list, after a place was set or one was put behind it.
use Rattle.std.proofs.Common.{ℕ, zero, suc, Bool, true, false, cond, List, [], ◌∷◌, ◌++◌, get_or, set, replicate, sym, subst, arith, inl, inr}
use Rattle.std.specs.List.{AllByRecursion}
use Rattle.std.proofs.lemmas.Bool.{cases_lt}
use Rattle.std.proofs.lemmas.List.{length-replicate, get_or-replicate, get_or_past}

pub at_set : {X : Type 0} (P : X → Type 0) (xs : List X) (i : ℕ) (x d : X) → P x → ((j : ℕ) → P (get_or xs j d)) → (j : ℕ) → P (get_or (set xs i x) j d)
at_set P [] i x d here each j = each j
at_set P (y ∷ ys) zero x d here each zero = here
at_set P (y ∷ ys) zero x d here each (suc j) = each (suc j)
at_set P (y ∷ ys) (suc i) x d here each zero = each zero
at_set P (y ∷ ys) (suc i) x d here each (suc j) = at_set P ys i x d here (λ k. each (suc k)) j

pub at_push : {X : Type 0} (P : X → Type 0) (xs : List X) (x d : X) → P x → P d → ((j : ℕ) → P (get_or xs j d)) → (j : ℕ) → P (get_or (xs ++ x ∷ []) j d)
at_push P [] x d here past each zero = here
at_push P [] x d here past each (suc j) = past
at_push P (y ∷ ys) x d here past each zero = each zero
at_push P (y ∷ ys) x d here past each (suc j) = at_push P ys x d here past (λ k. each (suc k)) j

pub at_replicate : {X : Type 0} (P : X → Type 0) (x : X) → P x → (count j : ℕ) → P (get_or (replicate count x) j x)
at_replicate P x holds count j =
    elim (cases_lt j count) [
      | inl inside ↦ subst P (sym (get_or-replicate count j x x inside)) holds
      | inr past ↦ subst P (sym (get_or_past (replicate count x) j x (omega (arith, past, length-replicate count x)))) holds
    ]

pub all_push : {X : Type 0} (P : X → Type 0) (xs : List X) (x : X) → AllByRecursion P (xs ++ x ∷ []) → AllByRecursion P xs
all_push P [] x all = tt
all_push P (y ∷ ys) x all = (all.0, all_push P ys x all.1)

pub all_set : {X : Type 0} (P : X → Type 0) (xs : List X) (i : ℕ) (x d : X) → (P x → P (get_or xs i d)) → AllByRecursion P (set xs i x) → AllByRecursion P xs
all_set P [] i x d back all = tt
all_set P (y ∷ ys) zero x d back all = (back all.0, all.1)
all_set P (y ∷ ys) (suc i) x d back all = (all.0, all_set P ys i x d back all.1)

pub all_at : {X : Type 0} (P Q : X → Type 0) (xs : List X) (d : X) → ((x : X) → P x → Q x) → Q d → AllByRecursion P xs → (j : ℕ) → Q (get_or xs j d)
all_at P Q [] d weaker past all j = past
all_at P Q (y ∷ ys) d weaker past all zero = weaker y all.0
all_at P Q (y ∷ ys) d weaker past all (suc j) = all_at P Q ys d weaker past all.1 j

-- whichever of two it is
pub either : {X : Type 0} (P : X → Type 0) (b : Bool) (x y : X) → P x → P y → P (cond b x y)
either P true x y first second = first
either P false x y first second = second
