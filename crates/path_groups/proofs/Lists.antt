-- Lists that contracts see through a function, item by item.
use Rattle.std.proofs.Common.{◌≡◌, ℕ, zero, suc, ◌<◌, Bool, ◌||◌, List, [], ◌∷◌, length, map, refl, sym, ◌∙◌, ap, arith, subst, get_or}
use Rattle.std.specs.Prelude.{All}
use Rattle.std.specs.List.{list_any}
use Rattle.std.proofs.lemmas.List.{length-map}

pub get_map : {A B : Type 0} (f : A → B) (xs : List A) (i : ℕ) (d : A) (e : B) → i < length xs → get_or (map f xs) i e ≡ f (get_or xs i d)
get_map f [] i d e lt = absurd (omega arith)
get_map f (x ∷ xs) zero d e lt = refl
get_map f (x ∷ xs) (suc i) d e lt = get_map f xs i d e (omega arith)

-- the item that the code reads, as contracts see it
pub get_map-item : {A B : Type 0} (f : A → B) (xs : List A) (i : ℕ) (x : A) (e : B) → i < length xs → x ≡ get_or xs i x → get_or (map f xs) i e ≡ f x
get_map-item f xs i x e lt is = get_map f xs i x e lt ∙ ap f (sym is)

-- what holds of each item as it is seen holds of the one that the code reads
pub All-map_item : {A B : Type 0} (P : B → Type 0) (f : A → B) (xs : List A) (i : ℕ) (x : A) → i < length xs → x ≡ get_or xs i x → All P (map f xs) → P (f x)
All-map_item P f xs i x lt is all =
    let within : i < length (map f xs) = omega (arith, length-map xs f) in
    subst P (get_map-item f xs i x (f x) lt is) (all i (f x) within)

-- a test of the items as they are seen
pub any_map : {A B : Type 0} (test : B → Bool) (f : A → B) (xs : List A) → list_any test (map f xs) ≡ list_any (λ x. test (f x)) xs
any_map test f [] = refl
any_map test f (x ∷ xs) = ap (λ b. test (f x) || b) (any_map test f xs)

pub length_map : {A B : Type 0} (f : A → B) (xs : List A) → length (map f xs) ≡ length xs
length_map f xs = length-map xs f
