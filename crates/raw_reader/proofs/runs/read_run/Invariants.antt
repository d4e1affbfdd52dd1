use Rattle.std.proofs.Common.{List, ◌++◌, map, Option, Some}
use Rattle.std.specs.Global.{Vec}
use Rattle.std.specs.Vec.Iter.{into_iter_items}
use Rattle.raw_reader.specs.Stretches.{AreRead}
use Rattle.raw_reader.specs.declared.pieces.Piece.{Piece}
use Rattle.raw_reader.proofs.runs.read_run.Given as goal

-- with what is read of the stretches that are left, all are read
abbrev pub invariant-loop-stretch : goal.invariant-loop-stretch
invariant-loop-stretch l =
    (rs : List (Option (Vec Piece))) → AreRead (into_iter_items l.stretch-iterator) rs → AreRead l.fn.run.stretches.items (map Some l.all.items ++ rs)
