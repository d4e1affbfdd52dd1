-- What a service writes for the bytes that it reads: a document in front, and lines behind it.
use Rattle.std.specs.Prelude.{ℕ, Bool, List, [], ◌∷◌, ◌++◌, drop, Option, Some, None, if◌then◌else◌}
use Rattle.live_lines.specs.Cutting.{Held, all_lines, lines_from}
use Rattle.two_part.specs.declared.Parts.{Parts}
use Rattle.two_part.specs.TwoPart.{document_in, parts_of}

-- which documents have more bytes than they may, which of the others are accepted, what is written
-- first for one, and the answer to a line behind it after the lines before that
pub record Follow : Type 0 where
  pub is_too_long : List ℕ → Bool
  pub accepts : List ℕ → Bool
  pub first_text : List ℕ → List ℕ
  pub answer_of : List ℕ → List Held → Held → List ℕ

-- the answers to the lines, each after all before it
abbrev pub answers : Follow → List ℕ → List Held → List Held → List ℕ
answers follow document before [] = []
answers follow document before (line ∷ lines) =
    follow.answer_of document before line ++ answers follow document (before ++ line ∷ []) lines

-- the first text, and then the answer of each line in order; a refused document has only its first
-- text
abbrev pub text_for : Follow → List ℕ → List Held → List ℕ
text_for follow document lines =
    follow.first_text document
    ++ (if follow.accepts document then answers follow document [] lines else [])

abbrev pub text_at : (List ℕ → List Held) → Follow → List ℕ → Option Parts → List ℕ
text_at lines_in follow input None = []
text_at lines_in follow input (Some parts) =
    text_for follow (document_in input parts) (lines_in (drop parts.end input))

-- what the bytes call for so far: nothing before the document is whole, and then the lines that
-- have ended
abbrev pub called_for : Follow → List ℕ → List ℕ
called_for follow bytes = text_at (lines_from (Some [])) follow bytes (parts_of bytes)

-- what a whole input calls for, a half line at its end included
abbrev pub follow_text : Follow → List ℕ → List ℕ
follow_text follow input = text_at all_lines follow input (parts_of input)
