use Rattle.std.proofs.Common.{◌≡◌, ◌<◌, ℕ, get_or, length}
use Rattle.audit_answer.proofs.rewound.give.Given as goal

abbrev pub invariant-loop-link : goal.invariant-loop-link
invariant-loop-link l = record {
  names : l.topology.names ≡ l.initial.topology.names;
  sites : l.topology.sites ≡ l.initial.topology.sites;
  count : length l.topology.capacities ≡ length l.initial.topology.capacities;
  given : (link : ℕ) → link < l.link → get_or l.topology.capacities link 0 ≡ get_or l.given link 0;
}
