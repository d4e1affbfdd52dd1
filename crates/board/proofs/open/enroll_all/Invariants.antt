use Rattle.std.proofs.Common.{◌≡◌, length, []}
use Rattle.board.specs.Reporting.{AreFresh}
use Rattle.board.proofs.open.enroll_all.Given as goal

abbrev pub invariant-loop-number : goal.invariant-loop-number
invariant-loop-number g l = record {
  count : length l.passes.items ≡ l.number;
  fresh : AreFresh l.passes.items;
  roll : l.roll ≡ record { log = []; members = l.number };
}
