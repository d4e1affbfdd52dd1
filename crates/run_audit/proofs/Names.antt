-- Names, looked for among many.
use Rattle.std.proofs.Common.{◌≡◌, ℕ, ◌<◌, ◌+◌, Bool, true, false, cond, List, [], ◌∷◌, length, get_or, Some, refl, sym, ap, ◌∙◌}
use Rattle.std.specs.Prelude.{is_some, position, ◌||◌}
use Rattle.std.specs.List.{list_any, position_from}
use Rattle.std.specs.Str.{bytes_eq}
use Rattle.std.proofs.lemmas.Iterator.Adapters.{position_from-zero}
use Rattle.std.proofs.lemmas.List.Folds.{list_any_at}

-- one of the names settles that a word is known
pub known_at : (names : List (List ℕ)) (number : ℕ) (name word : List ℕ) → number < length names → name ≡ get_or names number []
    → bytes_eq word name ≡ true → list_any (bytes_eq word) names ≡ true
known_at names number name word within is same = list_any_at (bytes_eq word) names number [] within (ap (bytes_eq word) (sym is) ∙ same)

found_from : {X : Type 0} (test : X → Bool) (number : ℕ) (items : List X) → is_some (position_from test number items) ≡ list_any test items
found_from test number [] = refl
found_from test number (item ∷ items) = go (test item) (found_from test (number + 1) items)
  where
    go : (passes : Bool) → is_some (position_from test (number + 1) items) ≡ list_any test items
        → is_some (cond passes (Some number) (position_from test (number + 1) items)) ≡ (passes || list_any test items)
    go true later = refl
    go false later = later

-- an item has a place where one passes the test
pub found_is : {X : Type 0} (test : X → Bool) (items : List X) → is_some (position test items) ≡ list_any test items
found_is test items = ap is_some (position_from-zero test items) ∙ found_from test 0 items
