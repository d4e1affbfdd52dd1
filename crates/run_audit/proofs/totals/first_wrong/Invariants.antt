use Rattle.std.proofs.Common.{◌≡◌, drop, get_or}
use Rattle.run_audit.specs.Checks.{first_wrong}
use Rattle.run_audit.proofs.totals.first_wrong.Given as goal

abbrev pub invariant-loop-check : goal.invariant-loop-check
invariant-loop-check l = first_wrong (λ prefix. get_or l.totals prefix 0) l.verdict l.checks ≡ first_wrong (λ prefix. get_or l.totals prefix 0) l.verdict (drop l.check-index l.checks)
