use Rattle.std.proofs.Common.{◌≡◌, ◌<◌, ℕ, get_or, length}
use Rattle.audit_answer.proofs.rewound.ask_nothing.Given as goal

abbrev pub invariant-loop-task : goal.invariant-loop-task
invariant-loop-task l = record {
  top : l.tree.top ≡ l.initial.tree.top;
  clusters : l.tree.clusters ≡ l.initial.tree.clusters;
  count : length l.tree.demands ≡ length l.initial.tree.demands;
  idle : (task : ℕ) → task < l.task → get_or l.tree.demands task 0 ≡ 0;
}
