use Rattle.std.proofs.Common.{ℕ, nat_le, sym, ◌∙◌, ap, subst}
use Rattle.std.proofs.Math.Path.{fun_ext}
use Rattle.bwe_specs.specs.Bounded.{greatest_upto}
use Rattle.bwe_specs.specs.Tree.{task_value}
use Rattle.function_sum.specs.Meaning.{IsMeaning}
use Rattle.tree_spec.specs.declared.task.Task.{Task}
use Rattle.policy_tree.proofs.Meanings.{nodes-sum}
use Rattle.push_down.proofs.children.TasksChildren.last_share_within.Goals as goal

pub returns-clause-last : goal.returns-clause-last
returns-clause-last c =
    let sum = c.args.self.now.sum.now in
    c.meeting_of.ensures.share
    ∙ ap (λ (f : ℕ → ℕ). greatest_upto c.args.top (λ share. nat_le (f share) c.args.amount))
    (fun_ext (λ (share : ℕ). sym (nodes-sum (λ (task : Task). task_value sum.function.points task.weight task.demand) sum.tasks share)))

pub returns-clause-meaning : goal.returns-clause-meaning
returns-clause-meaning c =
    let sum = c.args.self.now.sum.now in
    subst IsMeaning (fun_ext (λ (share : ℕ). sym (nodes-sum (λ (task : Task). task_value sum.function.points task.weight task.demand) sum.tasks share))) c.meeting_of.ensures.meaning
