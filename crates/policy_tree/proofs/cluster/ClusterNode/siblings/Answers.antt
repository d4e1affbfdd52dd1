use Rattle.std.proofs.Common.{sym, subst, List}
use Rattle.function_sum.specs.Meaning.{IsMeaning}
use Rattle.policy_tree.specs.States.{UserState, users_meaning}
use Rattle.policy_tree.proofs.Meanings.{users-meaning}
use Rattle.policy_tree.proofs.cluster.ClusterNode.siblings.Goals as goal

pub invariant_of-result : goal.invariant_of-result
invariant_of-result c =
    record { is = subst (λ (users : List UserState). IsMeaning (users_meaning users)) (sym c.as_slice.ensures.value) (users-meaning _ c.self.invariant) }
