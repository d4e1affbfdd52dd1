-- The lines of a text.
use Rattle.std.specs.Prelude.{ℕ, ◌==◌, List, [], ◌∷◌}
use Rattle.std.specs.List.{slice_split}

-- what a text has between line feeds (10), and before the first and after the last
abbrev pub pieces_of : List ℕ → List (List ℕ)
pieces_of text = slice_split (λ byte. byte == 10) text

-- all but the last
abbrev pub all_but_last : List (List ℕ) → List (List ℕ)
all_but_last [] = []
all_but_last (piece ∷ []) = []
all_but_last (piece ∷ next ∷ pieces) = piece ∷ all_but_last (next ∷ pieces)

abbrev pub last_of : List (List ℕ) → List ℕ
last_of [] = []
last_of (piece ∷ []) = piece
last_of (piece ∷ next ∷ pieces) = last_of (next ∷ pieces)

-- the lines of a text, each of which a line feed ends, without it
unfoldable pub lines_of : List ℕ → List (List ℕ)
lines_of text = all_but_last (pieces_of text)

-- what follows the last line feed
unfoldable pub left_of : List ℕ → List ℕ
left_of text = last_of (pieces_of text)

-- the lines that are left of a text, what follows the last line feed, and the number of the next
-- line
pub record LinesLeft : Type 0 where
  pub lines : List (List ℕ)
  pub left : List ℕ
  pub number : ℕ
