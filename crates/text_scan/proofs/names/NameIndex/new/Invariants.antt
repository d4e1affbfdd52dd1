use Rattle.std.proofs.Common.{take}
use Rattle.text_scan.proofs.NameFacts.{AreNumbered}
use Rattle.text_scan.proofs.names.NameIndex.new.Given as goal

abbrev pub invariant-loop-place : goal.invariant-loop-place
invariant-loop-place l = AreNumbered (take l.place l.names) l.numbers
