-- Shares that never fall, each taken once.
use Rattle.std.proofs.Common.{rules, ◌≡◌, ℕ, zero, suc, ◌<◌, ◌≤◌, ◌==◌, Bool, true, false, cond, List, [], ◌∷◌, length, get_or, refl, sym, ◌∙◌, ◌⊎◌, inl, inr, arith, subst, IsPermutation, IsSorted, nat_cmp, add-one}
use Rattle.std.specs.List.{dedup_from, Contains}
use Rattle.std.specs.List.Sorted.{IsNonDecreasingBy, IsStrictlyIncreasing}
use Rattle.std.proofs.lemmas.List.Sorted.{IsNonDecreasingBy-from_sort, Contains-permutation, IsPermutation-sym}
use Rattle.itertools.specs.List.{dedup}
use Rattle.share_transform.specs.Shares.{AreMerged}

-- each is not below the one before
abbrev pub Follows : ℕ → List ℕ → Type 0
Follows k [] = Unit {0}
Follows k (x ∷ xs) = (k ≤ x) × Follows x xs

-- each is above the one before
abbrev pub Climbs : ℕ → List ℕ → Type 0
Climbs k [] = Unit {0}
Climbs k (x ∷ xs) = (k < x) × Climbs x xs

abbrev pub In : ℕ → List ℕ → Type 0
In s [] = ⊥
In s (x ∷ xs) = (s ≡ x) ⊎ In s xs

abbrev same : ℕ → ℕ → Bool
same x kept = kept == x

eqb-eq : (k x : ℕ) → (k == x) ≡ true → k ≡ x
eqb-eq k x e = search rules

differ_lt : (k x : ℕ) → k ≤ x → (k == x) ≡ false → k < x
differ_lt k x le e = search rules

in-contains : (s : ℕ) (xs : List ℕ) → In s xs → Contains xs s
in-contains s [] h = absurd h
in-contains s (x ∷ xs) h = elim h [
  | inl e ↦ (0, omega arith, sym e)
  | inr h ↦ let c = in-contains s xs h in (suc c.0, omega (arith, c.1), c.2)
]

contains-in : (s : ℕ) (xs : List ℕ) (k : ℕ) → k < length xs → get_or xs k s ≡ s → In s xs
contains-in s [] k lt e = absurd (omega arith)
contains-in s (x ∷ xs) zero lt e = inl (sym e)
contains-in s (x ∷ xs) (suc k) lt e = inr (contains-in s xs k (omega arith) e)

follows-from : (k : ℕ) (xs : List ℕ) → IsNonDecreasingBy (λ x. x) (k ∷ xs) → Follows k xs
follows-from k [] h = tt
follows-from k (x ∷ xs) h = (h 0 1 0 (omega arith) (omega arith), follows-from x xs (λ i j d le lt. h (suc i) (suc j) d (omega arith) (omega arith)))

once-climbs : (k : ℕ) (xs : List ℕ) → Follows k xs → (rest : List ℕ) × (dedup_from same k xs ≡ k ∷ rest) × Climbs k rest
once-climbs k [] h = ([], refl, tt)
once-climbs k (x ∷ xs) h = go (k == x) refl (once-climbs x xs h.1) (λ f. once-climbs k xs f) where
  go : (b : Bool) → (k == x) ≡ b → ((rest : List ℕ) × (dedup_from same x xs ≡ x ∷ rest) × Climbs x rest)
      → (Follows k xs → (rest : List ℕ) × (dedup_from same k xs ≡ k ∷ rest) × Climbs k rest)
      → (rest : List ℕ) × (cond b (dedup_from same k xs) (k ∷ dedup_from same x xs) ≡ k ∷ rest) × Climbs k rest
  go true e other one = one (subst (λ y. Follows y xs) (sym (eqb-eq k x e)) h.1)
  go false e other one =
      (dedup_from same x xs, refl, subst (λ l. Climbs k l) (sym other.1) (differ_lt k x h.0 e, other.2))

once-keeps : (s k : ℕ) (xs : List ℕ) → In s (k ∷ xs) → In s (dedup_from same k xs)
once-keeps s k [] h = h
once-keeps s k (x ∷ xs) h = go (k == x) refl (λ i. once-keeps s x xs i) (λ i. once-keeps s k xs i) h where
  go : (b : Bool) → (k == x) ≡ b → (In s (x ∷ xs) → In s (dedup_from same x xs)) → (In s (k ∷ xs) → In s (dedup_from same k xs)) → In s (k ∷ (x ∷ xs)) → In s (cond b (dedup_from same k xs) (k ∷ dedup_from same x xs))
  go true e other one h = elim h [
    | inl a ↦ one (inl a)
    | inr later ↦ elim later [ inl a ↦ one (inl (a ∙ sym (eqb-eq k x e))) | inr i ↦ one (inr i) ]
  ]
  go false e other one h = elim h [ inl a ↦ inl a | inr later ↦ inr (other later) ]

once-gives : (s k : ℕ) (xs : List ℕ) → In s (dedup_from same k xs) → In s (k ∷ xs)
once-gives s k [] h = h
once-gives s k (x ∷ xs) h = go (k == x) refl (λ i. once-gives s x xs i) (λ i. once-gives s k xs i) h where
  go : (b : Bool) → (k == x) ≡ b → (In s (dedup_from same x xs) → In s (x ∷ xs)) → (In s (dedup_from same k xs) → In s (k ∷ xs)) → In s (cond b (dedup_from same k xs) (k ∷ dedup_from same x xs)) → In s (k ∷ (x ∷ xs))
  go true e other one h = elim (one h) [ inl a ↦ inl a | inr i ↦ inr (inr i) ]
  go false e other one h = elim h [ inl a ↦ inl a | inr later ↦ inr (other later) ]

climbs-increasing : (k : ℕ) (xs : List ℕ) → Climbs k xs → IsStrictlyIncreasing (k ∷ xs)
climbs-increasing k [] h i lt = absurd (omega arith)
climbs-increasing k (x ∷ xs) h zero lt = h.0
climbs-increasing k (x ∷ xs) h (suc i) lt = rw (add-one (suc i)) (rw add-one at (climbs-increasing x xs h.1 i (omega arith)))

-- of sorted shares, each once
pub once-merged : (shares sorted : List ℕ) → IsPermutation shares sorted → IsSorted nat_cmp sorted → AreMerged shares (dedup (λ x y. x == y) sorted)
once-merged shares sorted moved order = go sorted moved (IsNonDecreasingBy-from_sort (λ x. x) sorted order) where
  go : (sorted : List ℕ) → IsPermutation shares sorted → IsNonDecreasingBy (λ x. x) sorted → AreMerged shares (dedup (λ x y. x == y) sorted)
  go [] moved rise = record {
    rises = λ i lt. absurd (omega arith);
    all = λ s h. Contains-permutation shares [] s moved h;
    no_more = λ s h. Contains-permutation [] shares s (IsPermutation-sym shares [] moved) h;
  }
  go (k ∷ xs) moved rise =
      let climbs = once-climbs k xs (follows-from k xs rise) in
      record {
        rises = subst IsStrictlyIncreasing (sym climbs.1) (climbs-increasing k climbs.0 climbs.2);
        all = λ s h. let c = Contains-permutation shares (k ∷ xs) s moved h in in-contains s (dedup_from same k xs) (once-keeps s k xs (contains-in s (k ∷ xs) c.0 c.1 c.2));
        no_more = λ s h. Contains-permutation (k ∷ xs) shares s (IsPermutation-sym shares (k ∷ xs) moved) (in-contains s (k ∷ xs) (once-gives s k xs (contains-in s (dedup_from same k xs) h.0 h.1 h.2)));
      }
