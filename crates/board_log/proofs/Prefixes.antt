-- Beginnings of one list.
use Rattle.std.proofs.Common.{◌≡◌, ℕ, zero, suc, ◌≤◌, List, [], ◌∷◌, ◌++◌, length, take, drop, Some, slice_get, refl, ap, sym, ◌∙◌, arith, append_assoc, length-append}
use Rattle.std.proofs.lemmas.List.{take-append-drop, take-append-le, drop_at, length-take-le}
use mathlib.Core.List.{IsPrefix}
use Rattle.std.specs.List.{flat_map}
use Rattle.std.proofs.lemmas.List.Concat.{flat_map-append}

pub prefix_self : {A : Type 0} (xs : List A) → IsPrefix xs xs
prefix_self [] = ([], refl)
prefix_self (x ∷ xs) = (let r = prefix_self xs in r.0, ap (λ ys. x ∷ ys) (prefix_self xs).1)

pub prefix_trans : {A : Type 0} (xs ys zs : List A) → IsPrefix xs ys → IsPrefix ys zs → IsPrefix xs zs
prefix_trans xs ys zs p q = (p.0 ++ q.0, sym (append_assoc xs p.0 q.0) ∙ (ap (λ w. w ++ q.0) p.1 ∙ q.1))

pub prefix_front : {A : Type 0} (xs ys : List A) → IsPrefix xs (xs ++ ys)
prefix_front xs ys = (ys, refl)

pub prefix_take : {A : Type 0} (n : ℕ) (xs : List A) → IsPrefix (take n xs) xs
prefix_take n xs = (drop n xs, take-append-drop n xs)

-- of two beginnings of one list the shorter begins the longer
pub prefix_shorter : {A : Type 0} (xs ys zs : List A) → IsPrefix xs zs → IsPrefix ys zs → length xs ≤ length ys → IsPrefix xs ys
prefix_shorter [] ys zs p q le = (ys, refl)
prefix_shorter (x ∷ xs) [] zs p q le = absurd (omega arith)
prefix_shorter (x ∷ xs) (y ∷ ys) [] p q le = absurd (cc (p.1))
prefix_shorter (x ∷ xs) (y ∷ ys) (z ∷ zs) p q le =
    let heads : x ≡ y = cc (p.1, q.1) in
    let rest = prefix_shorter xs ys zs (p.0, cc (p.1)) (q.0, cc (q.1)) (omega arith) in
    (rest.0, cc (heads, rest.1))

-- a beginning as long as the whole is the whole
pub prefix_whole : {A : Type 0} (xs ys : List A) → IsPrefix xs ys → length ys ≤ length xs → xs ≡ ys
prefix_whole [] [] p le = refl
prefix_whole [] (y ∷ ys) p le = absurd (omega arith)
prefix_whole (x ∷ xs) [] p le = absurd (cc (p.1))
prefix_whole (x ∷ xs) (y ∷ ys) p le =
    let rest = prefix_whole xs ys (p.0, cc (p.1)) (omega arith) in cc (p.1, rest)

pub prefix_length : {A : Type 0} (xs ys : List A) → IsPrefix xs ys → length xs ≤ length ys
prefix_length xs ys p = omega (arith, sym (ap length p.1) ∙ length-append xs p.0)

-- what stands in a beginning stands in the whole, at the same place
pub prefix_get : {A : Type 0} (xs ys : List A) (k : ℕ) (x : A) → IsPrefix xs ys → slice_get xs k ≡ Some x → slice_get ys k ≡ Some x
prefix_get [] ys k x p h = absurd cc
prefix_get (y ∷ xs) [] k x p h = absurd (cc (p.1))
prefix_get (y ∷ xs) (z ∷ ys) zero x p h = cc (p.1, h)
prefix_get (y ∷ xs) (z ∷ ys) (suc k) x p h = prefix_get xs ys k x (p.0, cc (p.1)) h

-- the first items of a list are those of each longer one
pub prefix_takes : {A : Type 0} (n : ℕ) (xs ys : List A) → IsPrefix xs ys → n ≤ length xs → take n ys ≡ take n xs
prefix_takes n xs ys p le = ap (take n) (sym p.1) ∙ take-append-le n xs p.0 le

pub prefix_flat : {A : Type 0} (xss yss : List (List A)) → IsPrefix xss yss → IsPrefix (flat_map (λ x. x) xss) (flat_map (λ x. x) yss)
prefix_flat xss yss p = (flat_map (λ x. x) p.0, sym (flat_map-append (λ x. x) xss p.0) ∙ ap (flat_map (λ x. x)) p.1)

-- a beginning with the rest of the longer list is the longer list
pub followed : {A : Type 0} (log known more : List A) (from : ℕ) → IsPrefix log known → length log ≡ from → more ≡ drop from known → log ++ more ≡ known
followed log known more from p len is =
    let rest : drop from known ≡ p.0 = ap (drop from) (sym p.1) ∙ drop_at log p.0 from len in
    ap (λ w. log ++ w) (is ∙ rest) ∙ p.1

-- a beginning of a list is a beginning of its first items, if these are enough
pub prefix_within : {A : Type 0} (known log : List A) (n : ℕ) → IsPrefix known log → length known ≤ n → n ≤ length log → IsPrefix known (take n log)
prefix_within known log n p enough within =
    let le : length known ≤ length (take n log) = omega (arith, length-take-le n log within) in
    prefix_shorter known (take n log) log p (prefix_take n log) le
