-- What holds of lines, however their bytes come.
use Rattle.std.specs.Prelude.{◌≡◌, ℕ, List, [], ◌++◌, map, Some}
use Rattle.text_scan.specs.Lines.{lines_of, left_of}
use Rattle.live_lines.specs.Cutting.{Held, within, lines_from, held_after}

-- two pieces have the lines of both together
abbrev pub PiecesDoNotMatter : Type 0
PiecesDoNotMatter = (held : Held) (piece more : List ℕ)
    → (lines_from held (piece ++ more)
    ≡ lines_from held piece ++ lines_from (held_after held piece) more)
    × (held_after held (piece ++ more) ≡ held_after (held_after held piece) more)

-- the lines that are cut are those of the text, and what is held is what it has left; a line is
-- none where it is too long
abbrev pub LinesAreOfTheText : Type 0
LinesAreOfTheText = (text : List ℕ)
    → (lines_from (Some []) text ≡ map within (lines_of text))
    × (held_after (Some []) text ≡ within (left_of text))
