use Rattle.std.proofs.Common.{◌≡◌, true, false, length, take, get_or}
use Rattle.std.specs.List.{All}
use Rattle.run_audit.proofs.totals.asked_at.Given as goal

abbrev pub invariant-loop-check : goal.invariant-loop-check
invariant-loop-check l = record {
  len : length l.asked.items ≡ l.prefixes;
  asked : All (λ check. get_or l.asked.items check.prefix false ≡ true) (take l.check-index l.checks);
}
