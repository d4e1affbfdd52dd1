use Rattle.std.proofs.Common.{◌≡◌, ◌+◌, ◌++◌, ◌∷◌, [], List, length, map, ap, ap₂, ◌∙◌, arith}
use Rattle.std.proofs.lemmas.List.{map-append, length_push}
use Rattle.std.proofs.lemmas.Result.{on_ok_weaker}
use Rattle.policy_tree.specs.States.{UserState, user_tasks}
use Rattle.policy_tree.specs.Sizes.{user_size}
use Rattle.bwe_specs.specs.Lists.{lists_of}
use Rattle.tree_nodes.specs.Children.{numbers_from, child_lists, all_nodes, nodes_of_user}
use Rattle.tree_nodes.proofs.ChildLists.{cluster-lists}
use Rattle.tree_nodes.proofs.walked.ClusterNodeWalked.push_children.Goals as goal

pub returns-clause-lists : goal.returns-clause-lists
returns-clause-lists c =
    let old = c.args.children.now.items in
    let n = length old in
    let own = c.in_ok-numbers.numbers.items in
    let first : c.len.result + 1 ≡ n + 1 = omega (arith, c.len.ensures, c.args.children.now.ok.0) in
    let same : own ≡ numbers_from (n + 1) (map user_size c.args.self.now.users) =
    c.in_ok-numbers.ensures ∙ ap₂ (λ k (states : List UserState). numbers_from k (map user_size states)) first c.users.ensures.users in
    let pushed : lists_of c.push.new.self.items ≡ lists_of c.args.children.now.items ++ own ∷ [] =
    ap (map (λ list. list.items)) c.in_ok-push.ensures.items ∙ map-append (λ list. list.items) old (c.in_ok-numbers.numbers ∷ []) in
    let size : length c.push.new.self.items ≡ n + 1 = ap (λ lists. length lists) c.in_ok-push.ensures.items ∙ length_push old c.in_ok-numbers.numbers in
    on_ok_weaker c.push_all_children.result
    (λ is. cluster-lists n c.args.task c.args.self.now (lists_of c.args.children.now.items) (lists_of c.push_all_children.new.children.items) own same
    (is ∙ ap₂ (λ lists rest. lists ++ rest) pushed (ap₂ (λ k (states : List UserState). child_lists k (all_nodes user_tasks nodes_of_user c.args.task states)) size c.users-2.ensures.users)))
    c.push_all_children.ensures.lists
