use Rattle.std.proofs.Common.{◌≡◌, ◌≤◌, List, ◌++◌, length}
use Rattle.raw_reader.specs.Pieces.{ItemsTake}
use Rattle.raw_reader.proofs.pieces.read_more_items.Given as goal

abbrev pub invariant-items : goal.invariant-items
invariant-items g l =
    (xs : List _) × (l.found.items ≡ l.initial.found.items ++ xs) × ItemsTake (g.T.Part.is_read l.version) xs l.initial.reader l.reader
    × (length l.reader ≤ length l.initial.reader)

abbrev pub decreases-items : goal.decreases-items
decreases-items g l = length l.reader
