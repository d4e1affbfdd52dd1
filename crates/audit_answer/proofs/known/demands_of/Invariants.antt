use Rattle.std.proofs.Common.{◌≡◌, take}
use Rattle.audit_answer.proofs.known.demands_of.Given as goal

abbrev pub invariant-loop-task : goal.invariant-loop-task
invariant-loop-task l = l.demands.items ≡ take l.task l.tree.demands
