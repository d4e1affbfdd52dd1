-- The words of a line by their indices, and the numbers and names among them. A text is the list of
-- its bytes.
use Rattle.std.specs.Prelude.{ℕ, Bool, List, Option}
use Rattle.std.specs.List.{list_any}
use Rattle.std.specs.Str.{bytes_eq}
use Rattle.doc_names.specs.NameTexts.{entry_at}
use Rattle.text_scan.specs.Numbers.{printed_number_of}

-- the word of this index is this text
abbrev pub is_word : List (List ℕ) → ℕ → List ℕ → Bool
is_word words place text = bytes_eq (entry_at words place) text

-- the number that the word of this index is
abbrev pub number_at : List (List ℕ) → ℕ → Option ℕ
number_at words place = printed_number_of (entry_at words place)

-- the word is one of the names
abbrev pub is_known : List (List ℕ) → List ℕ → Bool
is_known names word = list_any (bytes_eq word) names
