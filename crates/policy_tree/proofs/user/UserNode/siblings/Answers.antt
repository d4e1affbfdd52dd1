use Rattle.std.proofs.Common.{sym, subst, List}
use Rattle.function_sum.specs.Meaning.{IsMeaning}
use Rattle.policy_tree.specs.States.{JobState, jobs_meaning}
use Rattle.policy_tree.proofs.Meanings.{jobs-meaning}
use Rattle.policy_tree.proofs.user.UserNode.siblings.Goals as goal

pub invariant_of-result : goal.invariant_of-result
invariant_of-result c =
    record { is = subst (λ (jobs : List JobState). IsMeaning (jobs_meaning jobs)) (sym c.as_slice.ensures.value) (jobs-meaning _ c.self.invariant) }
