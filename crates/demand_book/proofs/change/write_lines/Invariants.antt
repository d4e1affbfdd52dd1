use Rattle.std.proofs.Common.{◌≡◌}
use Rattle.demand_book.proofs.Changing.{written}
use Rattle.demand_book.proofs.change.write_lines.Given as goal

abbrev pub invariant-loop-at : goal.invariant-loop-at
invariant-loop-at l = l.lines ≡ written l.yielded l.initial.lines
