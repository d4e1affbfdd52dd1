use Rattle.std.proofs.Common.{length}
use Rattle.raw_reader.proofs.guess.guess_by_members.Given as goal

abbrev pub decreases-members : goal.decreases-members
decreases-members l = length l.reader
