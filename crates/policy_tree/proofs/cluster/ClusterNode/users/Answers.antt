use Rattle.std.proofs.Common.{subst}
use Rattle.function_sum.specs.Meaning.{IsMeaning}
use Rattle.policy_tree.specs.States.{ClusterState, users_meaning}
use Rattle.policy_tree.proofs.Meanings.{users-meaning}
use Rattle.policy_tree.proofs.cluster.ClusterNode.users.Goals as goal

pub returns-clause-meaning : goal.returns-clause-meaning
returns-clause-meaning c = subst (λ (cluster : ClusterState). IsMeaning (users_meaning cluster.users)) c.self.view_is (users-meaning _ c.self.invariant)
