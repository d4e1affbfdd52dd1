-- The limits of groups, worked out in any order, and put behind each other in the order of the groups.
use Rattle.std.proofs.Common.{◌≡◌, ℕ, ◌<◌, List, ◌∷◌, [], ◌++◌, Result, Ok, Err, Vec, Global, length, get_or, map, flat_map, zip, refl, ap, ap₂, subst, sym, ◌∙◌, arith}
use Rattle.std.specs.List.{AllZip, range_with_len}
use Rattle.std.specs.Prelude.{IfOk, MatchResult}
use Rattle.std.proofs.Math.ListN.{get_or-map}
use Rattle.std.proofs.lemmas.List.{get_or_default, length-map, same_lists}
use Rattle.std.proofs.lemmas.List.FromFn.{get_or-range_with_len, length-range_with_len}
use Rattle.std.proofs.lemmas.Slice.Zip.{get_or-zip, length-zip}
use Rattle.rayon.proofs.ListFacts.{AllZip-through}

-- what follows from a value where there is one
pub ok-then : {T E : Type 0} (r : Result T E) (P : T → Type 0) (Q : E → Type 0) (R : T → Type 0)
    → MatchResult r P Q → ((value : T) → P value → R value) → IfOk r R
ok-then (Ok value) P Q R is next = next value is
ok-then (Err error) P Q R is next = tt

-- a fact of each result is one of each value, where all are values
all-made : {X Y : Type 0} (E : Type 0) (R : X → Y → Type 0) (xs : List X) (values : List Y)
    → AllZip (λ x (made : Result Y E). IfOk made (R x)) xs (map Ok values) → AllZip R xs values
all-made E R [] [] are = tt
all-made E R [] (value ∷ values) are = absurd are
all-made E R (x ∷ xs) [] are = absurd are
all-made E R (x ∷ xs) (value ∷ values) are = (are.0, all-made E R xs values are.1)

module _ {X : Type 0} (d : X) (nodes : List X) (amounts : List ℕ) (same : length amounts ≡ length nodes) where
  abbrev pair_at : ℕ → X × ℕ
  pair_at k = (get_or nodes k d, get_or amounts k 0)

  -- the nodes with their amounts, by their numbers
  pairs-numbered : map pair_at (range_with_len 0 (length nodes)) ≡ zip nodes amounts
  pairs-numbered =
      let places = range_with_len 0 (length nodes) in
      let count : length places ≡ length nodes = length-range_with_len 0 (length nodes) in
      let long = length-map places pair_at in
      same_lists (map pair_at places) (zip nodes amounts) (omega (arith, long, count, length-zip nodes amounts, same)) (λ k e lt.
      let at_place : k < length places = omega (arith, lt, long) in
      let at_node : k < length nodes = omega (arith, at_place, count) in
      let at_amount : k < length amounts = omega (arith, at_node, same) in
      let number : get_or places k 0 ≡ k = get_or-range_with_len 0 (length nodes) k 0 at_node ∙ omega arith in
      get_or_default (map pair_at places) k e (pair_at 0) lt
      ∙ get_or-map pair_at places k 0
      ∙ ap pair_at number
      ∙ ap₂ (λ (node : X) (amount : ℕ). (node, amount)) (get_or_default nodes k d e.0 at_node) (get_or_default amounts k 0 e.1 at_amount)
      ∙ sym (get_or-zip nodes amounts k e at_node at_amount))

  -- the lists that were made of all numbers are those of the nodes with their amounts
  pub made-by_number : (E : Type 0) (limits : X → ℕ → List ℕ) (places : List ℕ) (results : List (Result (Vec ℕ Global) E)) (made lists : List (Vec ℕ Global))
      → places ≡ range_with_len 0 (length nodes) → results ≡ map Ok made → lists ≡ made
      → AllZip (λ k result. IfOk result (λ list. list.items ≡ limits (get_or nodes k d) (get_or amounts k 0))) places results
      → AllZip (λ given list. list.items ≡ limits given.0 given.1) (zip nodes amounts) lists
  made-by_number E limits places results made lists is_places is_results is_lists are =
      let Is : ℕ → Vec ℕ Global → Type 0 = λ k list. list.items ≡ limits (get_or nodes k d) (get_or amounts k 0) in
      let IsOf : (X × ℕ) → Vec ℕ Global → Type 0 = λ given list. list.items ≡ limits given.0 given.1 in
      let values : AllZip Is places made = all-made E Is places made (subst (AllZip (λ k (result : Result (Vec ℕ Global) E). IfOk result (Is k)) places) is_results are) in
      let through : AllZip IsOf (map pair_at places) made = AllZip-through pair_at Is IsOf (λ k list is. is) places made values in
      let paired : AllZip IsOf (zip nodes amounts) made = subst (λ xs. AllZip IsOf xs made) (ap (map pair_at) is_places ∙ pairs-numbered) through in
      subst (AllZip IsOf (zip nodes amounts)) (sym is_lists) paired

-- lists behind each other are the limits of all
pub behind-each_other : {X : Type 0} (limits : X → List ℕ) (xs : List X) (lists : List (Vec ℕ Global))
    → AllZip (λ x list. list.items ≡ limits x) xs lists → flat_map (λ list. list.items) lists ≡ flat_map limits xs
behind-each_other limits [] [] are = refl
behind-each_other limits [] (list ∷ lists) are = absurd are
behind-each_other limits (x ∷ xs) [] are = absurd are
behind-each_other limits (x ∷ xs) (list ∷ lists) are =
    ap₂ (λ (one two : List ℕ). one ++ two) are.0 (behind-each_other limits xs lists are.1)
