use Rattle.std.proofs.Common.{◌≡◌, ◌++◌, drop, map}
use Rattle.raw_document.specs.Raw.{task_view}
use Rattle.cluster_parts.proofs.functions.weights_of.Given as goal

abbrev pub invariant-loop-task : goal.invariant-loop-task
invariant-loop-task l = l.weights.items ++ map (λ task. task.weight) (map task_view (drop l.task-index l.tasks)) ≡ map (λ task. task.weight) (map task_view l.tasks)
