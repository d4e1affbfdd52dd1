use Rattle.std.proofs.Common.{◌≡◌, ◌-◌, take, drop}
use Rattle.crew_readers.proofs.reading.entries_from.Given as goal

abbrev pub invariant-loop-place : goal.invariant-loop-place
invariant-loop-place g l = l.entries.items ≡ take (l.place - l.from) (drop l.from l.view.copy.now.log)
