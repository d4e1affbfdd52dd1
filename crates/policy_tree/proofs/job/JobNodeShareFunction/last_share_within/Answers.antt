use Rattle.std.proofs.Common.{nat_le, ap}
use Rattle.bwe_specs.specs.Bounded.{greatest_upto}
use Rattle.policy_tree.specs.States.{JobState, job_meaning}
use Rattle.policy_tree.proofs.Inverses.{if-some-same}
use Rattle.policy_tree.proofs.job.JobNodeShareFunction.last_share_within.Goals as goal

pub returns-clause-last : goal.returns-clause-last
returns-clause-last c =
    if-some-same c.last_share_at.result _ _ (ap (λ (job : JobState). greatest_upto c.args.top (λ share. nat_le (job_meaning job share) c.args.amount)) c.self.view_is) c.last_share_at.ensures.last
