use Rattle.plain_table.proofs.FirstOfLinks.{AreFirstsSoFar}
use Rattle.plain_table.proofs.firsts.find_firsts.Given as goal

abbrev pub invariant-loop-place : goal.invariant-loop-place
invariant-loop-place l = AreFirstsSoFar l.closings l.place l.firsts
