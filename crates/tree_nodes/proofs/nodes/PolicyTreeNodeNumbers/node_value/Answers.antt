use Rattle.std.proofs.Common.{◌<◌, length, ap, sym, subst, ◌∙◌, arith}
use Rattle.policy_tree.specs.Trees.{Tree, tree_of}
use Rattle.policy_tree.specs.Walk.{walk}
use Rattle.tree_nodes.specs.Seen.{value_of, node_in}
use Rattle.tree_nodes.proofs.WalkSeen.{length-seen, node-seen}
use Rattle.tree_nodes.proofs.nodes.PolicyTreeNodeNumbers.node_value.Goals as goal

pub returns-in-Ok : goal.returns-in-Ok
returns-in-Ok c =
    let clusters = c.clusters.result.now in
    let top = c.args.self.now.top in
    let are = c.clusters.ensures in
    let within : c.args.node < length (walk (tree_of top clusters).clusters) = subst (λ (tree : Tree). c.args.node < length (walk tree.clusters)) (sym are.made) c.requires in
    c.in-Ok.ensures.1
    ∙ sym (ap (λ seen. seen.value c.args.share) (node-seen top clusters are.tops c.args.node within))
    ∙ ap (λ (tree : Tree). value_of tree (node_in tree c.args.node) c.args.share) are.made

pub returns-in-Err : goal.returns-in-Err
returns-in-Err c =
    let clusters = c.clusters.result.now in
    let top = c.args.self.now.top in
    let are = c.clusters.ensures in
    let within : c.args.node < length (walk (tree_of top clusters).clusters) = subst (λ (tree : Tree). c.args.node < length (walk tree.clusters)) (sym are.made) c.requires in
    absurd (omega (arith, c.in-Err.ensures, length-seen top clusters are.tops, within))
