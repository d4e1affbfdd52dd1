-- Sums below a bound, over lists and over numbered things.
use Rattle.std.proofs.Common.{◌≡◌, ℕ, zero, suc, ◌+◌, ◌<◌, ◌≤◌, List, [], ◌∷◌, length, map, sum_by, refl, ap, ◌∙◌, arith, subst, inl, inr, get_or, zero-add}
use Rattle.std.proofs.lemmas.Bool.{cases_eq}
use Rattle.std.proofs.lemmas.List.Sums.{sum_by-cons}
use Rattle.std.proofs.lemmas.List.FromFn.{sum_by-map-range_with_len_more}
use Rattle.bwe_specs.specs.Bounded.{sum_below}
use Rattle.bwe_specs.specs.Reports.{numbers}
use Rattle.bwe_specs.proofs.Bounds.{sum_below-mono}

-- the first amount by itself
pub sum_below-front : (n : ℕ) (f : ℕ → ℕ) → sum_below (suc n) f ≡ f 0 + sum_below n (λ i. f (suc i))
unfolding sum_below
sum_below-front zero f = omega arith
sum_below-front (suc n) f = omega (arith, sum_below-front n f)

pub sum_below-list : {X : Type 0} (value : X → ℕ) (xs : List X) (d : X)
    → sum_below (length xs) (λ i. value (get_or xs i d)) ≡ sum_by value xs
unfolding sum_below
sum_below-list value [] d = refl
sum_below-list value (x ∷ xs) d =
    omega (arith, sum_below-front (length xs) (λ i. value (get_or (x ∷ xs) i d)), sum_by-cons value x xs, sum_below-list value xs d)

pub sum_by-numbers : {X : Type 0} (g : X → ℕ) (f : ℕ → X) (n : ℕ)
    → sum_by g (map f (numbers n)) ≡ sum_below n (λ k. g (f k))
unfolding sum_below
sum_by-numbers g f zero = refl
sum_by-numbers g f (suc n) =
    let next : suc n ≡ n + 1 = omega arith in
    ap (λ k. sum_by g (map f (numbers k))) next
    ∙ sum_by-map-range_with_len_more g f 0 n n (zero-add n)
    ∙ ap (λ k. k + g (f n)) (sum_by-numbers g f n)

-- what one amount leaves below another, the sums leave too
pub sum_below-room : (n i more : ℕ) (f g : ℕ → ℕ) → i < n → ((j : ℕ) → j < n → f j ≤ g j) → f i + more ≤ g i
    → sum_below n f + more ≤ sum_below n g
unfolding sum_below
sum_below-room zero i more f g lt each room = absurd (omega arith)
sum_below-room (suc n) i more f g lt each room =
    elim (cases_eq i n) [
      | inl e ↦
          omega (arith, subst (λ k. f k + more ≤ g k) e room, sum_below-mono n f g (λ j below. each j (omega arith)))
      | inr other ↦
          omega (
            arith,
            sum_below-room n i more f g (omega (arith, other)) (λ j below. each j (omega arith)) room,
            each n (omega arith),
          )
    ]
