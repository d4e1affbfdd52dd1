use Rattle.std.proofs.Common.{arith, ◌∙◌, ap, sum_by, List}
use Rattle.tree_spec.specs.declared.task.Task.{Task}
use Rattle.capped_sum.proofs.Rise.{seen-few, seen-rises}
use Rattle.capped_sum.proofs.capped_sum.CappedSum.steepest.Goals as goal

pub returns-then-not-self : goal.returns-then-not-self
returns-then-not-self c = seen-few _ _ _ c.self.view_is c.self.invariant.in_range (omega arith)

pub returns : goal.returns
returns c =
    seen-rises _ _ c.all_weights-weights.result c.steepest.result _ _ c.self.view_is c.self.invariant.in_range
    (c.all_weights-weights.ensures ∙ ap (λ (tasks : List Task). sum_by (λ task. task.weight) tasks) c.as_slice.ensures.value)
    c.steepest.ensures.rise c.saturating_mul.ensures (omega arith)
