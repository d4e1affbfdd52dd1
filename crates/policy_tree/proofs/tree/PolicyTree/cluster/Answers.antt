use Rattle.std.proofs.Common.{◌≡◌, ◌<◌, sym, subst, length, arith}
use Rattle.std.proofs.lemmas.List.{get_or_read}
use Rattle.policy_tree.specs.States.{ClusterState}
use Rattle.policy_tree.specs.Changes.{cluster_at}
use Rattle.policy_tree.specs.Trees.{Tree, tree_of}
use Rattle.policy_tree.specs.Nodes.{IsClusterOf}
use Rattle.policy_tree.proofs.TreeFacts.{length-clusters, cluster-of}
use Rattle.policy_tree.proofs.tree.PolicyTree.cluster.Goals as goal

pub index-requires : goal.index-requires
index-requires c = let e = length-clusters _ _ _ c.self.view_is in omega (arith, c.self.inside.clusters.ok.0, c.requires)

pub returns : goal.returns
returns c =
    let clusters = c.self.inside.clusters.items in
    let e = length-clusters _ _ _ c.self.view_is in
    let within : c.args.group < length clusters = omega (arith, c.requires) in
    let read : c.index.result.now ≡ cluster_at clusters c.args.group = get_or_read clusters c.args.group c.index.result.now within c.index.ensures _ in
    subst (λ (tree : Tree). IsClusterOf tree c.args.group c.index.result.now) c.self.view_is
    (subst (λ (cluster : ClusterState). IsClusterOf (tree_of c.self.inside.top clusters) c.args.group cluster) (sym read) (cluster-of c.self.inside.top clusters c.self.invariant.tops c.args.group within))
