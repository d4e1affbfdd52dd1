use Rattle.std.proofs.Common.{◌-◌, length}
use Rattle.raw_reader.specs.Walks.{Amid}
use Rattle.raw_reader.proofs.part.VecPart.read.Given as goal

abbrev pub invariant-items : goal.invariant-items
invariant-items g l = Amid (l.depth - 1) (g.T.Part.is_read l.version) l.initial.reader l.found.items l.reader

abbrev pub decreases-items : goal.decreases-items
decreases-items g l = length l.reader
