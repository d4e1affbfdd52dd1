use Rattle.capped_sum.proofs.Meanings.{tasks-meaning}
use Rattle.policy_tree.proofs.job.JobNode.sum.Goals as goal

pub returns-clause-meaning : goal.returns-clause-meaning
returns-clause-meaning c = tasks-meaning c.self.inside.sum c.self.invariant.function c.self.invariant.small
