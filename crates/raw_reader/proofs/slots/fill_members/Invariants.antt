use Rattle.std.proofs.Common.{◌-◌, length}
use Rattle.raw_reader.specs.Walks.{Within}
use Rattle.raw_reader.proofs.slots.fill_members.Given as goal

abbrev pub invariant-members : goal.invariant-members
invariant-members g l = Within (l.depth - 1) (g.S.Slots.holds l.version l.slots) l.initial.reader l.reader

abbrev pub decreases-members : goal.decreases-members
decreases-members g l = length l.reader
