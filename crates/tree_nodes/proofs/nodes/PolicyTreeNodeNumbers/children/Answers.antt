use Rattle.std.proofs.Common.{◌<◌, length, ap, sym, subst, ◌∙◌, arith}
use Rattle.std.proofs.lemmas.List.{get_or_read}
use Rattle.policy_tree.specs.Numbering.{numbered_clusters}
use Rattle.policy_tree.specs.Trees.{Tree}
use Rattle.policy_tree.specs.Walk.{walk}
use Rattle.tree_nodes.specs.Children.{child_numbers}
use Rattle.tree_nodes.specs.Seen.{node_in}
use Rattle.tree_nodes.proofs.ChildLists.{length-kept, kept-children}
use Rattle.tree_nodes.proofs.nodes.PolicyTreeNodeNumbers.children.Goals as goal
use Rattle.tree_nodes.proofs.nodes.PolicyTreeNodeNumbers.children.Goals.{In_ok-lists}

within : (c : In_ok-lists) → c.args.node < length (walk (numbered_clusters c.clusters.result.now))
within c = subst (λ (tree : Tree). c.args.node < length (walk tree.clusters)) (sym c.clusters.ensures.made) c.requires

pub children_of-requires-clause-nodes : goal.children_of-requires-clause-nodes
children_of-requires-clause-nodes c = c.clusters.ensures.nodes

pub children_of-requires-clause-tasks : goal.children_of-requires-clause-tasks
children_of-requires-clause-tasks c = c.clusters.ensures.few

pub index-requires : goal.index-requires
index-requires c =
    let b = (goal.at.index-requires c).In_ok-lists in
    let nodes = walk (numbered_clusters c.clusters.result.now) in
    let lists = c.in_ok-lists.lists in
    omega (arith, lists.ok.0, length-kept lists nodes c.in_ok-lists.ensures, within b)

pub returns : goal.returns
returns c =
    let b = (goal.at.returns c).In_ok-lists in
    let nodes = walk (numbered_clusters c.clusters.result.now) in
    let lists = c.in_ok-lists.lists in
    let known : c.args.node < length lists.items = omega (arith, length-kept lists nodes c.in_ok-lists.ensures, within b) in
    c.in_ok-numbers.ensures.items
    ∙ c.as_slice.ensures.value
    ∙ kept-children lists nodes c.args.node _ c.index.result.now c.in_ok-lists.ensures (within b) (get_or_read lists.items c.args.node c.index.result.now known c.index.ensures _)
    ∙ ap (λ (tree : Tree). child_numbers c.args.node (node_in tree c.args.node)) c.clusters.ensures.made
