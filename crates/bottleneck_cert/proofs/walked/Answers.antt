use Rattle.bottleneck_cert.proofs.Causes.{right-is, not-right}
use Rattle.bottleneck_cert.proofs.walked.Goals as goal

pub returns-then-branch-clause-verdict : goal.returns-then-branch-clause-verdict
returns-then-branch-clause-verdict g c = right-is _ c.args.closings.now (c.in_ok-seen_right.ensures.right c.if-branch.true)

pub returns-clause-looks : goal.returns-clause-looks
returns-clause-looks g c = λ right.
    absurd (not-right _ c.args.closings.now _ c.in_ok-verdict_by_all.ensures (c.in_ok-seen_right.ensures.wrong c.if-branch.false) right)
