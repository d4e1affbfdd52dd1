-- The words of a line.
use Rattle.std.specs.Prelude.{ℕ, ◌==◌, List, [], Option, Some, None}
use Rattle.std.specs.List.{slice_split}

-- a text is the list of its bytes
abbrev pub Text : Type 0
Text = List ℕ

-- what a line has between spaces (32), and before the first and after the last
unfoldable pub words_of : Text → List Text
words_of line = slice_split (λ byte. byte == 32) line

-- the words that are left, if any are
abbrev pub words_left : Option Text → List Text
words_left None = []
words_left (Some rest) = words_of rest
