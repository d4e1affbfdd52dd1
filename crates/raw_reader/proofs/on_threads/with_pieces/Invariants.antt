use Rattle.std.proofs.Common.{[], ◌++◌, ℕ, List}
use Rattle.std.specs.Vec.Iter.{into_iter_items}
use Rattle.json.specs.Token.{Token}
use Rattle.raw_reader.specs.Joined.{IsJoined}
use Rattle.raw_reader.specs.Pieces.{PiecesTake}
use Rattle.raw_reader.proofs.on_threads.with_pieces.Given as goal

-- the pieces that are left are still to be taken
abbrev pub invariant-loop-piece : goal.invariant-loop-piece
invariant-loop-piece l =
    (version : ℕ) (start old more : List Token) → PiecesTake version l.fn.pieces.items old [] → IsJoined version l.fn.joined start (old ++ more)
    → (now : List Token) × PiecesTake version (into_iter_items l.piece-iterator) now [] × IsJoined version l.found start (now ++ more)
