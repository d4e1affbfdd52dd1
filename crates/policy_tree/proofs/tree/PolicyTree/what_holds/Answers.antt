use Rattle.std.proofs.Common.{subst, length}
use Rattle.bwe_specs.specs.Values.{AreValues}
use Rattle.policy_tree.specs.Trees.{Tree, IsTree, value_in}
use Rattle.policy_tree.proofs.TreeFacts.{tree-is, values-are}
use Rattle.policy_tree.proofs.tree.PolicyTree.what_holds.Goals as goal

pub returns-clause-tree : goal.returns-clause-tree
returns-clause-tree c = subst IsTree c.self.view_is (tree-is _ _ _ _ c.self.invariant)

pub returns-clause-values : goal.returns-clause-values
returns-clause-values c =
    subst (λ (tree : Tree). AreValues (length tree.clusters) tree.top (value_in tree)) c.self.view_is (values-are _ _ _ _ c.self.invariant)
