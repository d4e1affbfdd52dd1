use Rattle.std.proofs.Common.{ℕ, sym, subst}
use Rattle.std.proofs.Math.Path.{fun_ext}
use Rattle.bwe_specs.specs.Tree.{task_value}
use Rattle.function_sum.specs.Meaning.{IsMeaning}
use Rattle.tree_spec.specs.declared.task.Task.{Task}
use Rattle.policy_tree.proofs.Meanings.{nodes-sum}
use Rattle.push_down.proofs.children.TasksChildren.sum.Goals as goal

pub returns-clause-meaning : goal.returns-clause-meaning
returns-clause-meaning c =
    let sum = c.args.self.now.sum.now in
    subst IsMeaning (fun_ext (λ (share : ℕ). sym (nodes-sum (λ (task : Task). task_value sum.function.points task.weight task.demand) sum.tasks share))) c.value.ensures.meaning
