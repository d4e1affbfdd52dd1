use Rattle.std.proofs.Common.{◌≡◌, drop}
use Rattle.demand_book.proofs.Changing.{written}
use Rattle.demand_book.proofs.change.write_numbers.Given as goal

abbrev pub invariant-loop-entry : goal.invariant-loop-entry
invariant-loop-entry l = written (drop l.entry-index l.entries) l.numbers ≡ written l.entries l.initial.numbers
