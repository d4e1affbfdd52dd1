use Rattle.std.proofs.Common.{◌≡◌, ◌+◌, ◌-◌, ◌++◌, ◌∷◌, [], sym, ap, ◌∙◌, arith}
use Rattle.std.specs.List.{range_with_len}
use Rattle.policy_tree.proofs.TreeFacts.{range-push}
use Rattle.tree_nodes.proofs.walked.task_numbers.Goals as goal

pub loop-task-preserved : goal.loop-task-preserved
loop-task-preserved c =
    let first = c.args.first in
    let done = c.loop-task.task - first in
    let here : c.loop-task.task ≡ first + done = omega (arith, c.loop-task.auto.task) in
    let more : done + 1 ≡ c.loop-task.task + 1 - first = omega (arith, c.loop-task.auto.task) in
    c.in_ok-push.ensures.items
    ∙ ap (λ numbers. numbers ++ c.loop-task.task ∷ []) c.loop-task.invariant
    ∙ ap (λ n. range_with_len first done ++ n ∷ []) here
    ∙ sym (range-push first done)
    ∙ ap (range_with_len first) more
