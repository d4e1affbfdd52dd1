-- Calls with the items of a list, from those with its halves.
use Rattle.std.proofs.Common.{◌≡◌, refl, ℕ, zero, suc, ◌+◌, ◌<◌, Result, Ok, Err, List, [], ◌∷◌, ◌++◌, length, get_or, set, subst, sym, arith, length-append}
use Rattle.std.specs.Prelude.{IfOk}
use denote.Param.Members.{Shared}
use denote.Ref.{MutBor}
use Rattle.at_once.specs.Calls.{Calls, CallsEach}

module _ {F X A : Type 0} (g : Shared F (ℕ × (MutBor X × Unit {0})) (A × (MutBor X × Unit {0}))) (f : F) where
  pub calls_one : (first : ℕ) (before : X) (answer : A) (after : X) → Calls g f first before answer after → CallsEach g f first (before ∷ []) (answer ∷ []) (after ∷ [])
  calls_one first before answer after calls = record {
    answered = refl;
    count = refl;
    each = each;
  } where
    each : (place : ℕ) (old : X) (a : A) (new : X) → place < 1 → Calls g f (first + place) (get_or (before ∷ []) place old) (get_or (answer ∷ []) place a) (get_or (after ∷ []) place new)
    each zero old a new lt = subst (λ (n : ℕ). Calls g f n before answer after) (omega arith) calls
    each (suc place) old a new lt = absurd (omega arith)

  pub calls_single : (first : ℕ) (before : List X) (item : X) (answer : A) (after : X) → 0 < length before → length before < 2 → Calls g f first (get_or before 0 item) answer after
      → CallsEach g f first before (answer ∷ []) (set before 0 after)
  calls_single first [] item answer after some few calls = absurd (omega arith)
  calls_single first (one ∷ two ∷ more) item answer after some few calls = absurd (omega arith)
  calls_single first (one ∷ []) item answer after some few calls = calls_one first one answer after calls

  halves_each : (first next : ℕ) (xs xs' : List X) (bs bs' : List A) (ys ys' : List X) → next ≡ first + length xs → length bs ≡ length xs → length ys ≡ length xs
      → ((place : ℕ) (old : X) (a : A) (new : X) → place < length xs → Calls g f (first + place) (get_or xs place old) (get_or bs place a) (get_or ys place new))
      → ((place : ℕ) (old : X) (a : A) (new : X) → place < length xs' → Calls g f (next + place) (get_or xs' place old) (get_or bs' place a) (get_or ys' place new))
      → (place : ℕ) (old : X) (a : A) (new : X) → place < length (xs ++ xs') → Calls g f (first + place) (get_or (xs ++ xs') place old) (get_or (bs ++ bs') place a) (get_or (ys ++ ys') place new)
  halves_each first next [] xs' [] bs' [] ys' at m n front back place old a new lt =
      subst (λ (k : ℕ). Calls g f (k + place) (get_or xs' place old) (get_or bs' place a) (get_or ys' place new)) (omega (arith, at)) (back place old a new lt)
  halves_each first next [] xs' (b ∷ bs) bs' ys ys' at m n front back place old a new lt = absurd (omega (arith, m))
  halves_each first next [] xs' [] bs' (y ∷ ys) ys' at m n front back place old a new lt = absurd (omega (arith, n))
  halves_each first next (x ∷ xs) xs' [] bs' ys ys' at m n front back place old a new lt = absurd (omega (arith, m))
  halves_each first next (x ∷ xs) xs' (b ∷ bs) bs' [] ys' at m n front back place old a new lt = absurd (omega (arith, n))
  halves_each first next (x ∷ xs) xs' (b ∷ bs) bs' (y ∷ ys) ys' at m n front back zero old a new lt = front zero old a new (omega arith)
  halves_each first next (x ∷ xs) xs' (b ∷ bs) bs' (y ∷ ys) ys' at m n front back (suc place) old a new lt =
      let shift : (k : ℕ) → suc first + k ≡ first + suc k = λ k. omega arith in
      subst (λ (k : ℕ). Calls g f k (get_or (xs ++ xs') place old) (get_or (bs ++ bs') place a) (get_or (ys ++ ys') place new)) (shift place)
      (halves_each (suc first) next xs xs' bs bs' ys ys' (omega (arith, at)) (omega (arith, m)) (omega (arith, n))
      (λ k o b' w h. subst (λ (j : ℕ). Calls g f j (get_or xs k o) (get_or bs k b') (get_or ys k w)) (sym (shift k)) (front (suc k) o b' w (omega arith)))
      back place old a new (omega (arith, lt)))

  pub calls_both : (first next : ℕ) (xs xs' : List X) (bs bs' : List A) (ys ys' : List X) → next ≡ first + length xs → CallsEach g f first xs bs ys → CallsEach g f next xs' bs' ys'
      → CallsEach g f first (xs ++ xs') (bs ++ bs') (ys ++ ys')
  calls_both first next xs xs' bs bs' ys ys' at front back = record {
    answered = omega (arith, length-append xs xs', length-append bs bs', front.answered, back.answered);
    count = omega (arith, length-append xs xs', length-append ys ys', front.count, back.count);
    each = halves_each first next xs xs' bs bs' ys ys' at front.answered front.count front.each back.each;
  }

-- a call whose answer is not a refusal
pub calls_unrefused : {F X D E : Type 0} (g : Shared F (ℕ × (MutBor X × Unit {0})) (Result D E × (MutBor X × Unit {0}))) (f : F) (number : ℕ) (before : X) (answer : Result D E) (after : X)
    → Calls g f number before answer after → IfOk answer (λ made. Calls g f number before (Ok made) after)
calls_unrefused g f number before (Ok made) after calls = calls
calls_unrefused g f number before (Err error) after calls = tt
