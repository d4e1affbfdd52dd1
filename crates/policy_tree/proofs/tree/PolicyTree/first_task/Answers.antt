use Rattle.std.proofs.Common.{◌<◌, ◌∙◌, ap, length, arith}
use Rattle.std.proofs.lemmas.List.{get_or_read, length-map}
use Rattle.policy_tree.specs.Kept.{cluster_counts}
use Rattle.policy_tree.specs.Trees.{Tree}
use Rattle.policy_tree.specs.Nodes.{first_in}
use Rattle.policy_tree.proofs.TreeFacts.{length-clusters, first-kept}
use Rattle.policy_tree.proofs.tree.PolicyTree.first_task.Goals as goal

pub index-requires : goal.index-requires
index-requires c =
    let clusters = c.self.inside.clusters.items in
    let e = length-clusters _ _ _ c.self.view_is in
    let size = length-map clusters cluster_counts in
    omega (arith, c.self.inside.firsts.ok.0, c.self.invariant.starts.size, size, c.requires)

pub returns : goal.returns
returns c =
    let clusters = c.self.inside.clusters.items in
    let e = length-clusters _ _ _ c.self.view_is in
    let within : c.args.group < length clusters = omega (arith, c.requires) in
    let size = length-map clusters cluster_counts in
    let known : c.args.group < length c.self.inside.firsts.items = omega (arith, c.self.invariant.starts.size, size, within) in
    get_or_read c.self.inside.firsts.items c.args.group c.index.result.now known c.index.ensures 0
    ∙ first-kept _ clusters _ _ c.self.invariant c.args.group within
    ∙ ap (λ (tree : Tree). first_in tree c.args.group) c.self.view_is
