-- A sum does not depend on the order of its terms.
use Rattle.std.proofs.Common.{◌≡◌, ℕ, zero, suc, ◌+◌, ◌<◌, if◌then◌else◌, ◌==◌, Bool, true, refl, sym, ◌∙◌, ap, arith, eq-eqb, ne_eqb}
use Rattle.bwe_specs.specs.Bounded.{sum_below}
use Rattle.bwe_specs.proofs.Bounds.{sum_below-add, sum_below-one, sum_below-same, sum_below-zero}
use Rattle.table_laws.specs.Order.{IsOrder}

-- a sum of one term
sum-only : (n at : ℕ) (f : ℕ → ℕ) → at < n → ((k : ℕ) → k < n → (k ≡ at → ⊥) → f k ≡ 0) → sum_below n f ≡ f at
sum-only n at f lt others =
    omega (arith, sum_below-one n at (λ k. 0) f lt (λ k kl other. sym (others k kl other)), sum_below-zero n (λ k. 0) (λ k kl. refl))

sum-swap : (n m : ℕ) (f : ℕ → ℕ → ℕ) → sum_below n (λ i. sum_below m (f i)) ≡ sum_below m (λ j. sum_below n (λ i. f i j))
unfolding sum_below
sum-swap zero m f = sym (sum_below-zero m (λ j. 0) (λ j lt. refl))
sum-swap (suc n) m f = ap (λ k. k + sum_below m (f n)) (sum-swap n m f) ∙ sym (sum_below-add m (λ j. sum_below n (λ i. f i j)) (f n))

pub sum-order : (n : ℕ) (group_at place_of : ℕ → ℕ) (f : ℕ → ℕ) → IsOrder n group_at place_of → sum_below n (λ place. f (group_at place)) ≡ sum_below n f
sum-order n group_at place_of f order =
    let term : ℕ → ℕ → ℕ = λ place group. if group_at place == group then f group else 0 in
    let row : (place : ℕ) → place < n → f (group_at place) ≡ sum_below n (term place) = λ place lt.
    sym (sum-only n (group_at place) (term place) (order.within place lt) (λ group gl other. rw (ne_eqb (group_at place) group (λ e. other (sym e))) refl)
    ∙ at_true (group_at place == group_at place) (eq-eqb (group_at place) (group_at place) refl) (f (group_at place))) in
    let column : (group : ℕ) → group < n → sum_below n (λ place. term place group) ≡ f group = λ group lt.
    sum-only n (place_of group) (λ place. term place group) (order.place_within group lt)
    (λ place pl other. rw (ne_eqb (group_at place) group (λ e. other (sym (order.of_group place pl) ∙ ap place_of e))) refl)
    ∙ at_true (group_at (place_of group) == group) (eq-eqb (group_at (place_of group)) group (order.at_place group lt)) (f group) in
    sum_below-same n (λ place. f (group_at place)) (λ place. sum_below n (term place)) row ∙ sum-swap n n term
    ∙ sum_below-same n (λ group. sum_below n (λ place. term place group)) f column
  where
    at_true : (b : Bool) → b ≡ true → (v : ℕ) → (if b then v else 0) ≡ v
    at_true b e v = rw e refl
