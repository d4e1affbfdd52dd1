use Rattle.std.proofs.Common.{subst}
use Rattle.function_sum.specs.Meaning.{IsMeaning}
use Rattle.policy_tree.specs.States.{UserState, jobs_meaning}
use Rattle.policy_tree.proofs.Meanings.{jobs-meaning}
use Rattle.policy_tree.proofs.user.UserNode.jobs.Goals as goal

pub returns-clause-meaning : goal.returns-clause-meaning
returns-clause-meaning c = subst (λ (user : UserState). IsMeaning (jobs_meaning user.jobs)) c.self.view_is (jobs-meaning _ c.self.invariant)
