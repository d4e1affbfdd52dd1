use Rattle.std.proofs.Common.{◌≡◌, length}
use Rattle.bwe_protocol.proofs.play.play.Given as goal

abbrev pub invariant-lines : goal.invariant-lines
invariant-lines l = l.control.maker.tasks ≡ 4

abbrev pub decreases-lines : goal.decreases-lines
decreases-lines l = length l.rest.lines
