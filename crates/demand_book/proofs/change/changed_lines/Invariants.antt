use Rattle.std.proofs.Common.{take}
use Rattle.demand_book.specs.Changes.{Changes}
use Rattle.demand_book.proofs.change.changed_lines.Given as goal

abbrev pub invariant-loop-at : goal.invariant-loop-at
invariant-loop-at l = Changes 0 (take l.at l.old) (take l.at l.new) l.entries.items
