-- Lists that a loop goes along, item by item.
use Rattle.std.proofs.Common.{◌≡◌, ℕ, ◌+◌, ◌<◌, ◌≤◌, List, [], ◌∷◌, ◌++◌, length, get_or, set, subst, sym, ◌∙◌, arith, below_more}
use Rattle.std.proofs.lemmas.List.{get_or_append_left, get_or_push, get_or-set_same, get_or-set_other}

-- one pair more
pub pairs_more : {X Y : Type 0} (P : X → Y → Type 0) (xs : List X) (ys : List Y) (n : ℕ) (x : X) (y : Y) → length xs ≡ n → n < length ys
    → ((place : ℕ) (a : X) (b : Y) → place < n → P (get_or xs place a) (get_or ys place b)) → P x y
    → (place : ℕ) (a : X) (b : Y) → place < n + 1 → P (get_or (xs ++ x ∷ []) place a) (get_or (set ys n y) place b)
pairs_more P xs ys n x y count inside before last place a b lt =
    below_more (λ k. P (get_or (xs ++ x ∷ []) k a) (get_or (set ys n y) k b)) n
    (λ k h. subst (λ w. P w (get_or (set ys n y) k b)) (sym (get_or_append_left xs (x ∷ []) a k (omega (arith, count, h))))
    (subst (λ w. P (get_or xs k a) w) (sym (get_or-set_other ys n k y b (omega (arith, h)))) (before k a b h)))
    (subst (λ w. P w (get_or (set ys n y) n b)) (sym (get_or_push xs x a n count)) (subst (λ w. P x w) (sym (get_or-set_same ys n y b inside)) last))
    place lt

-- what lies beyond stays
pub left_beyond : {X : Type 0} (xs all : List X) (n : ℕ) (x : X) → ((place : ℕ) (other : X) → n ≤ place → get_or xs place other ≡ get_or all place other)
    → (place : ℕ) (other : X) → n + 1 ≤ place → get_or (set xs n x) place other ≡ get_or all place other
left_beyond xs all n x same place other le = get_or-set_other xs n place x other (omega (arith, le)) ∙ same place other (omega (arith, le))
