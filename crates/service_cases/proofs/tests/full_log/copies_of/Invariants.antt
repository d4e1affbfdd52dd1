use Rattle.std.proofs.Common.{◌≡◌}
use Rattle.std.specs.List.{All}
use Rattle.service_cases.proofs.tests.full_log.copies_of.Given as goal

abbrev pub invariant-loop : goal.invariant-loop
invariant-loop l = All (λ copy. copy ≡ l.fn.report) l.copies.items
