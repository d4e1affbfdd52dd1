use Rattle.std.proofs.Common.{◌∙◌, sym, ap, length}
use Rattle.policy_tree.specs.Trees.{Tree}
use Rattle.policy_tree.proofs.TreeFacts.{length-homes}
use Rattle.policy_tree.proofs.tree.PolicyTree.tasks.Goals as goal

pub returns : goal.returns
returns c =
    c.len.ensures ∙ c.self.inside.homes.ok.0 ∙ sym (length-homes _ _ _ _ c.self.invariant) ∙ ap (λ (tree : Tree). length tree.demands) c.self.view_is
