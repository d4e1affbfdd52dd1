use Rattle.std.proofs.Common.{◌∙◌, sym}
use Rattle.policy_tree.proofs.TreeFacts.{length-clusters}
use Rattle.policy_tree.proofs.tree.PolicyTree.groups.Goals as goal

pub returns : goal.returns
returns c = c.len.ensures ∙ c.self.inside.clusters.ok.0 ∙ sym (length-clusters _ _ _ c.self.view_is)
