use Rattle.std.proofs.Common.{◌++◌, ℕ, List, Vec, length, map, sym, ap, ◌∙◌, arith}
use Rattle.std.specs.Global.{Global}
use Rattle.policy_tree.specs.States.{cluster_tasks}
use Rattle.tree_nodes.specs.Children.{child_lists, all_nodes, nodes_of_cluster}
use Rattle.policy_tree.proofs.Sizes.{walk-size}
use Rattle.tree_nodes.proofs.ChildLists.{walk-numbered}
use Rattle.tree_nodes.proofs.walked.children_of.Goals as goal

pub push_all_children-requires-clause-room : goal.push_all_children-requires-clause-room
push_all_children-requires-clause-room c =
    let none = ap (λ lists. length lists) c.new-children.ensures.items in
    omega (arith, none, walk-size c.args.clusters.now, c.requires.nodes)

pub returns : goal.returns
returns c =
    c.in_ok-push_all_children.ensures.lists
    ∙ ap (λ (lists : List (Vec ℕ Global)). map (λ list. list.items) lists ++ child_lists (length lists) (all_nodes cluster_tasks nodes_of_cluster 0 c.args.clusters.now)) c.new-children.ensures.items
    ∙ ap (child_lists 0) (sym (walk-numbered c.args.clusters.now))
