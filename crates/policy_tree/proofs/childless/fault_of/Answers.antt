use Rattle.std.proofs.Common.{ℕ, ◌<◌, ◌≤◌, Option, Some, length, ap, ap₂, sym, ◌∙◌, arith}
use Rattle.policy_tree.specs.Childless.{clusters_of}
use Rattle.policy_tree.specs.Walk.{fault_by}
use Rattle.policy_tree.specs.Trees.{task_numbers}
use Rattle.policy_tree.proofs.Counting.{position-walk, length-walk, length-task_numbers, few_fault, many_fault}
use Rattle.policy_tree.proofs.childless.fault_of.Goals as goal

pub after_all-requires : goal.after_all-requires
after_all-requires c = omega (arith, length-walk c.args.clusters.now, c.requires.nodes)

pub returns-in-Err : goal.returns-in-Err
returns-in-Err c =
    ap Some c.in-Err.ensures.1
    ∙ ap (λ (found : Option ℕ). fault_by found (length (task_numbers (clusters_of c.args.clusters.now)))) (sym (position-walk c.args.clusters.now ∙ c.in-Err.ensures.2))

pub tasks_of-count-requires : goal.tasks_of-count-requires
tasks_of-count-requires c = omega (arith, length-task_numbers c.args.clusters.now, c.requires.tasks)

pub returns-then-count-gt-MAX_TASKS : goal.returns-then-count-gt-MAX_TASKS
returns-then-count-gt-MAX_TASKS c =
    let specs = c.args.clusters.now in
    let many : 1_048_576 < c.tasks_of-count.result = c.if-count-gt-MAX_TASKS.true in
    sym (many_fault c.tasks_of-count.result many)
    ∙ ap₂ fault_by (sym (position-walk specs ∙ c.in_default.ensures.1)) (c.tasks_of-count.ensures ∙ sym (length-task_numbers specs))

pub returns : goal.returns
returns c =
    let specs = c.args.clusters.now in
    let few : c.tasks_of-count.result ≤ 1_048_576 = c.if-count-gt-MAX_TASKS.false in
    sym (few_fault c.tasks_of-count.result few)
    ∙ ap₂ fault_by (sym (position-walk specs ∙ c.in_default.ensures.1)) (c.tasks_of-count.ensures ∙ sym (length-task_numbers specs))
