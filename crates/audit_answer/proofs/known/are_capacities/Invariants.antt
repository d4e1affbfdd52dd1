use Rattle.std.proofs.Common.{◌≡◌, ◌<◌, ℕ, get_or}
use Rattle.audit_answer.proofs.known.are_capacities.Given as goal

abbrev pub invariant-loop-link : goal.invariant-loop-link
invariant-loop-link l = (link : ℕ) → link < l.link → get_or l.capacities link 0 ≡ get_or l.topology.capacities link 0
