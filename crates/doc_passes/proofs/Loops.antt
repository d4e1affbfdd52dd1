-- Loops over what is left of a list.
use Rattle.std.proofs.Common.{◌≡◌, ℕ, suc, ◌+◌, ◌<◌, ◌≤◌, List, [], ◌∷◌, length, drop, map, get_or, Option, Some, None, sym, ap, ◌∙◌, arith, add-one, drop-cons}
use Rattle.std.proofs.lemmas.List.{drop_all}
use Rattle.std.specs.Option.{option_or}
use Rattle.doc_passes.specs.Limits.{first_some, sum_of}

-- the item at hand, and those after it
pub drop_here : {V : Type 0} (vs : List V) (i : ℕ) (v : V) → i < length vs → v ≡ get_or vs i v → drop i vs ≡ v ∷ drop (i + 1) vs
drop_here vs i v within here = rw add-one (drop-cons vs i v within ∙ ap (λ y. y ∷ drop (suc i) vs) (sym here))

module _ {V A B : Type 0} (view_of : V → A) (f : A → Option B) where
  first_some-drop : (vs : List V) (i : ℕ) (v : V) → i < length vs → v ≡ get_or vs i v → first_some f (map view_of (drop i vs)) ≡ option_or (f (view_of v)) (first_some f (map view_of (drop (i + 1) vs)))
  unfolding first_some
  first_some-drop vs i v within here = ap (λ rest. first_some f (map view_of rest)) (drop_here vs i v within here)

  pub first_found : (vs : List V) (i : ℕ) (v : V) (x : B) → i < length vs → v ≡ get_or vs i v → Some x ≡ f (view_of v) → first_some f (map view_of (drop i vs)) ≡ first_some f (map view_of vs) → Some x ≡ first_some f (map view_of vs)
  first_found vs i v x within here found before = ap (λ o. option_or o (first_some f (map view_of (drop (i + 1) vs)))) found ∙ sym (first_some-drop vs i v within here) ∙ before

  pub first_later : (vs : List V) (i : ℕ) (v : V) → i < length vs → v ≡ get_or vs i v → None ≡ f (view_of v) → first_some f (map view_of (drop i vs)) ≡ first_some f (map view_of vs) → first_some f (map view_of (drop (i + 1) vs)) ≡ first_some f (map view_of vs)
  first_later vs i v within here none before = ap (λ o. option_or o (first_some f (map view_of (drop (i + 1) vs)))) none ∙ sym (first_some-drop vs i v within here) ∙ before

  first_of_none : (rest : List V) → rest ≡ [] → first_some f (map view_of rest) ≡ None
  unfolding first_some
  first_of_none rest e = ap (λ r. first_some f (map view_of r)) e

  pub first_none : (vs : List V) (i : ℕ) → length vs ≤ i → first_some f (map view_of (drop i vs)) ≡ first_some f (map view_of vs) → None ≡ first_some f (map view_of vs)
  first_none vs i past before = sym (first_of_none (drop i vs) (drop_all i vs past)) ∙ before

module _ {V A : Type 0} (view_of : V → A) (f : A → ℕ) where
  sum_of-drop : (vs : List V) (i : ℕ) (v : V) → i < length vs → v ≡ get_or vs i v → sum_of f (map view_of (drop i vs)) ≡ f (view_of v) + sum_of f (map view_of (drop (i + 1) vs))
  unfolding sum_of
  sum_of-drop vs i v within here = ap (λ rest. sum_of f (map view_of rest)) (drop_here vs i v within here)

  -- after one more item
  pub sum_later : (vs : List V) (i : ℕ) (v : V) (total more start : ℕ) → i < length vs → v ≡ get_or vs i v → more ≡ total + f (view_of v) → total + sum_of f (map view_of (drop i vs)) ≡ start + sum_of f (map view_of vs) → more + sum_of f (map view_of (drop (i + 1) vs)) ≡ start + sum_of f (map view_of vs)
  sum_later vs i v total more start within here more_is before = omega (arith, sum_of-drop vs i v within here)

  sum_of_none : (rest : List V) → rest ≡ [] → sum_of f (map view_of rest) ≡ 0
  unfolding sum_of
  sum_of_none rest e = ap (λ r. sum_of f (map view_of r)) e

  pub sum_whole : (vs : List V) (i total start : ℕ) → length vs ≤ i → total + sum_of f (map view_of (drop i vs)) ≡ start + sum_of f (map view_of vs) → total ≡ start + sum_of f (map view_of vs)
  sum_whole vs i total start past before = omega (arith, sum_of_none (drop i vs) (drop_all i vs past))
