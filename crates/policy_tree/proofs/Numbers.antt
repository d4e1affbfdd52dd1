-- Lists whose items are told the numbers of their first tasks.
use Rattle.std.proofs.Common.{◌≡◌, ℕ, zero, suc, ◌+◌, ◌<◌, List, [], ◌∷◌, ◌++◌, length, get_or, set, map, take, flat_map, sum_by, All, refl, sym, ◌∙◌, ap, ap₂, arith, add-zero, subst}
use Rattle.std.proofs.lemmas.List.{length-append, get_or_append_left, get_or-append-add}
use Rattle.std.proofs.lemmas.List.Sums.{sum_by-cons}
use Rattle.std.proofs.lemmas.List.Elements.{All-head, All-tail}
pub use Rattle.tree_spec.proofs.Numbers.{length-numbered}
use Rattle.tree_spec.specs.Numbering.{numbered}
use Rattle.policy_tree.specs.Nodes.{Agrees}

-- an item is told how many tasks come before it
pub get_or-numbered : {X Y : Type 0} (tasks : X → ℕ) (item : ℕ → X → Y) (first : ℕ) (xs : List X) (place : ℕ) (d : X) (e : Y) → place < length xs
    → get_or (numbered tasks item first xs) place e ≡ item (first + sum_by tasks (take place xs)) (get_or xs place d)
unfolding numbered
get_or-numbered tasks item first [] place d e lt = absurd (omega arith)
get_or-numbered tasks item first (x ∷ xs) zero d e lt = ap (λ n. item n x) (sym (add-zero first))
get_or-numbered tasks item first (x ∷ xs) (suc place) d e lt =
    let sums : first + tasks x + sum_by tasks (take place xs) ≡ first + sum_by tasks (x ∷ take place xs) = omega (arith, sum_by-cons tasks x (take place xs)) in
    get_or-numbered tasks item (first + tasks x) xs place d e (omega arith) ∙ ap (λ n. item n (get_or xs place d)) sums

-- another item of as many tasks, that looks the same, changes nothing
pub numbered-set_same : {X Y : Type 0} (tasks : X → ℕ) (item : ℕ → X → Y) (first : ℕ) (xs : List X) (place : ℕ) (x d : X)
    → tasks x ≡ tasks (get_or xs place d) → ((n : ℕ) → item n x ≡ item n (get_or xs place d))
    → numbered tasks item first (set xs place x) ≡ numbered tasks item first xs
unfolding numbered
numbered-set_same tasks item first [] place x d size same = refl
numbered-set_same tasks item first (y ∷ ys) zero x d size same =
    ap₂ (λ head rest. head ∷ rest) (same first) (ap (λ n. numbered tasks item (first + n) ys) size)
numbered-set_same tasks item first (y ∷ ys) (suc place) x d size same =
    ap (λ rest. item first y ∷ rest) (numbered-set_same tasks item (first + tasks y) ys place x d size same)

-- demands of two lists one after the other
pub agrees-left : (demand : ℕ → ℕ) (first : ℕ) (left right : List ℕ) → Agrees demand first (left ++ right) → Agrees demand first left
agrees-left demand first left right agrees =
    record { at = λ place lt. agrees.at place (omega (arith, length-append left right)) ∙ get_or_append_left left right 0 place lt }

pub agrees-right : (demand : ℕ → ℕ) (first : ℕ) (left right : List ℕ) → Agrees demand first (left ++ right) → Agrees demand (first + length left) right
agrees-right demand first left right agrees = record {
  at = λ place lt.
      let sums : first + length left + place ≡ first + (length left + place) = omega arith in
      ap demand sums ∙ agrees.at (length left + place) (omega (arith, length-append left right)) ∙ get_or-append-add left right place 0;
}

-- items whose values agree under the demands, one by one
pub values-agree : {X Y : Type 0} (tasks : X → ℕ) (item : ℕ → X → Y) (demands : X → List ℕ) (value : Y → ℕ → ℕ) (meaning : X → ℕ → ℕ) (P : X → Type 0) (demand : ℕ → ℕ)
    → ((x : X) → length (demands x) ≡ tasks x)
    → ((first : ℕ) (x : X) → P x → Agrees demand first (demands x) → value (item first x) ≡ meaning x)
    → (first : ℕ) (xs : List X) → All P xs → Agrees demand first (flat_map demands xs)
    → map value (numbered tasks item first xs) ≡ map meaning xs
unfolding numbered
values-agree tasks item demands value meaning P demand size same first [] all agrees = refl
values-agree tasks item demands value meaning P demand size same first (x ∷ xs) all agrees =
    ap₂ (λ head rest. head ∷ rest)
    (same first x (All-head P x xs all) (agrees-left demand first (demands x) (flat_map demands xs) agrees))
    (values-agree tasks item demands value meaning P demand size same (first + tasks x) xs (All-tail P x xs all)
    (subst (λ n. Agrees demand (first + n) (flat_map demands xs)) (size x) (agrees-right demand first (demands x) (flat_map demands xs) agrees)))

-- the first items are numbered alike
pub take-numbered : {X Y : Type 0} (tasks : X → ℕ) (item : ℕ → X → Y) (first : ℕ) (xs : List X) (place : ℕ) → take place (numbered tasks item first xs) ≡ numbered tasks item first (take place xs)
unfolding numbered
take-numbered tasks item first xs zero = refl
take-numbered tasks item first [] (suc place) = refl
take-numbered tasks item first (x ∷ xs) (suc place) = ap (λ rest. item first x ∷ rest) (take-numbered tasks item (first + tasks x) xs place)

-- and the demands of an item agree from its first number on
pub agrees-at : {X : Type 0} (tasks : X → ℕ) (demands : X → List ℕ) (demand : ℕ → ℕ) → ((x : X) → length (demands x) ≡ tasks x)
    → (first : ℕ) (xs : List X) (place : ℕ) (d : X) → place < length xs → Agrees demand first (flat_map demands xs) → Agrees demand (first + sum_by tasks (take place xs)) (demands (get_or xs place d))
agrees-at tasks demands demand size first [] place d lt agrees = absurd (omega arith)
agrees-at tasks demands demand size first (x ∷ xs) zero d lt agrees =
    subst (λ n. Agrees demand n (demands x)) (sym (add-zero first)) (agrees-left demand first (demands x) (flat_map demands xs) agrees)
agrees-at tasks demands demand size first (x ∷ xs) (suc place) d lt agrees =
    let e : first + length (demands x) + sum_by tasks (take place xs) ≡ first + sum_by tasks (x ∷ take place xs) = omega (arith, size x, sum_by-cons tasks x (take place xs)) in
    subst (λ n. Agrees demand n (demands (get_or xs place d))) e
    (agrees-at tasks demands demand size (first + length (demands x)) xs place d (omega arith) (agrees-right demand first (demands x) (flat_map demands xs) agrees))
