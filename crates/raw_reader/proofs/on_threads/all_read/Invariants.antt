use Rattle.std.proofs.Common.{◌≡◌, ◌++◌, List, map, Some}
use Rattle.std.specs.Global.{Vec}
use Rattle.std.specs.Vec.Iter.{into_iter_items}
use Rattle.raw_reader.specs.Runs.{pieces_in}
use Rattle.raw_reader.specs.declared.pieces.Piece.{Piece}
use Rattle.raw_reader.proofs.on_threads.all_read.Given as goal

abbrev pub invariant-loop-part : goal.invariant-loop-part
invariant-loop-part l =
    (parts : List (Vec (Vec Piece))) × (l.fn.found.items ≡ map Some parts ++ into_iter_items l.part-iterator) × (l.all.items ≡ pieces_in parts)
