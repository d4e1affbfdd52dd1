use Rattle.std.proofs.Common.{◌≡◌, List, [], ◌++◌, length, None}
use Rattle.json.specs.Token.{Token}
use Rattle.json.specs.Lex.{tokens}
use Rattle.raw_reader.specs.Pieces.{PiecesTake}
use Rattle.raw_reader.specs.declared.pieces.Piece.{Piece}
use Rattle.raw_reader.proofs.Begun.{Begun}
use Rattle.raw_reader.proofs.pieces.read_stretch.Given as goal

-- With any pieces of what is still to come, those so far are pieces of the text. Nothing is still
-- to come where no piece stands next.
abbrev pub invariant-pieces : goal.invariant-pieces
invariant-pieces l =
    ((ps : List Piece) (end : List Token) → PiecesTake l.stretch.version ps l.reader end → PiecesTake l.stretch.version (l.pieces.items ++ ps) (tokens l.stretch.text.now) end)
    × (l.place ≡ None → l.reader ≡ [])
    × Begun l.stretch.place (tokens l.stretch.text.now) l.place l.reader

abbrev pub decreases-pieces : goal.decreases-pieces
decreases-pieces l = length l.reader
