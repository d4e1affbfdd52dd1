use Rattle.std.proofs.Common.{List, refl, subst, sym}
use Rattle.policy_tree.specs.States.{ClusterState}
use Rattle.policy_tree.specs.Trees.{Tree, tree_of}
use Rattle.policy_tree.specs.Nodes.{AreClustersOf}
use Rattle.policy_tree.proofs.tree.PolicyTree.clusters.Goals as goal

pub returns : goal.returns
returns c =
    subst (λ (tree : Tree). AreClustersOf tree c.as_slice.result.now) c.self.view_is
    (subst (λ (clusters : List ClusterState). AreClustersOf (tree_of c.self.inside.top c.self.inside.clusters.items) clusters) (sym c.as_slice.ensures.value)
    (record { made = refl; tops = c.self.invariant.tops; few = c.self.invariant.few; nodes = c.self.invariant.nodes }))
