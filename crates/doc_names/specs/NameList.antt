-- Names one behind another in one text, each with where it ends. A text is the list of its bytes.
use Rattle.std.specs.Prelude.{◌≡◌, ℕ, zero, suc, ◌≤◌, List, [], ◌∷◌, length, take, slice_index, slice_range}
use Rattle.std.specs.Str.{IsUtf8}

-- the names that have these ends, of which the first starts here
unfoldable pub names_from : List ℕ → ℕ → List ℕ → List (List ℕ)
names_from text start [] = []
names_from text start (end ∷ ends) = slice_range text start end ∷ names_from text end ends

-- where the name of a number starts
abbrev pub start_in : ℕ → List ℕ → ℕ → ℕ
start_in start ends zero = start
start_in start ends (suc number) = slice_index ends number

-- no name ends before it starts or cuts a character, and the last one ends where the text does
unfoldable pub AreEnds : List ℕ → ℕ → List ℕ → Type 0
AreEnds text start [] = start ≡ length text
AreEnds text start (end ∷ ends) =
    (start ≤ end) × (end ≤ length text) × IsUtf8 (take end text) × AreEnds text end ends
