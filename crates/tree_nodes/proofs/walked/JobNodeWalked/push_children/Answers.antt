use Rattle.std.proofs.Common.{◌≡◌, ◌+◌, ◌-◌, ◌∷◌, [], length, map, sym, ap, ◌∙◌, arith}
use Rattle.std.specs.List.{range_with_len}
use Rattle.std.proofs.lemmas.List.{map-append}
use Rattle.tree_spec.specs.Tasks.{Tasks}
use Rattle.policy_tree.specs.States.{job_tasks}
use Rattle.bwe_specs.specs.Lists.{lists_of}
use Rattle.tree_nodes.proofs.ChildLists.{job-lists}
use Rattle.policy_tree.proofs.TreeFacts.{job-numbers}
use Rattle.tree_nodes.proofs.walked.JobNodeWalked.push_children.Goals as goal

pub returns-clause-lists : goal.returns-clause-lists
returns-clause-lists c =
    let own = c.in_ok-numbers.numbers.items in
    let same : length c.sum.result.now.tasks ≡ job_tasks c.args.self.now = ap (λ (sum : Tasks). length sum.tasks) c.sum.ensures.sum in
    let count : c.args.task + c.tasks.result - c.args.task ≡ job_tasks c.args.self.now = omega (arith, c.tasks.ensures.count, same) in
    job-lists (length c.args.children.now.items) c.args.task c.args.self.now (lists_of c.args.children.now.items) (lists_of c.push.new.self.items) own
    (c.in_ok-numbers.ensures ∙ ap (range_with_len c.args.task) count ∙ sym (job-numbers c.args.task c.args.self.now))
    (ap (map (λ list. list.items)) c.in_ok-push.ensures.items ∙ map-append (λ list. list.items) c.args.children.now.items (c.in_ok-numbers.numbers ∷ []))
