use Rattle.std.proofs.Common.{◌≡◌, ◌+◌, ◌++◌, ◌∷◌, [], List, length, map, ap, ap₂, ◌∙◌, arith}
use Rattle.std.proofs.lemmas.List.{map-append, length_push}
use Rattle.std.proofs.lemmas.Result.{on_ok_weaker}
use Rattle.policy_tree.specs.States.{JobState, job_tasks}
use Rattle.policy_tree.specs.Sizes.{job_size}
use Rattle.bwe_specs.specs.Lists.{lists_of}
use Rattle.tree_nodes.specs.Children.{numbers_from, child_lists, all_nodes, nodes_of_job}
use Rattle.tree_nodes.proofs.ChildLists.{user-lists}
use Rattle.tree_nodes.proofs.walked.UserNodeWalked.push_children.Goals as goal

pub returns-clause-lists : goal.returns-clause-lists
returns-clause-lists c =
    let old = c.args.children.now.items in
    let n = length old in
    let own = c.in_ok-numbers.numbers.items in
    let first : c.len.result + 1 ≡ n + 1 = omega (arith, c.len.ensures, c.args.children.now.ok.0) in
    let same : own ≡ numbers_from (n + 1) (map job_size c.args.self.now.jobs) =
    c.in_ok-numbers.ensures ∙ ap₂ (λ k (states : List JobState). numbers_from k (map job_size states)) first c.jobs.ensures.jobs in
    let pushed : lists_of c.push.new.self.items ≡ lists_of c.args.children.now.items ++ own ∷ [] =
    ap (map (λ list. list.items)) c.in_ok-push.ensures.items ∙ map-append (λ list. list.items) old (c.in_ok-numbers.numbers ∷ []) in
    let size : length c.push.new.self.items ≡ n + 1 = ap (λ lists. length lists) c.in_ok-push.ensures.items ∙ length_push old c.in_ok-numbers.numbers in
    on_ok_weaker c.push_all_children.result
    (λ is. user-lists n c.args.task c.args.self.now (lists_of c.args.children.now.items) (lists_of c.push_all_children.new.children.items) own same
    (is ∙ ap₂ (λ lists rest. lists ++ rest) pushed (ap₂ (λ k (states : List JobState). child_lists k (all_nodes job_tasks nodes_of_job c.args.task states)) size c.jobs-2.ensures.jobs)))
    c.push_all_children.ensures.lists
