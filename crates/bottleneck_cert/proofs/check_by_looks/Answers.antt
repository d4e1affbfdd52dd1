use Rattle.mpfa_fill.proofs.MomentLemmas.{never_falls}
use Rattle.bottleneck_cert.proofs.Causes.{right-said}
use Rattle.bottleneck_cert.proofs.check_by_looks.Goals as goal

pub returns-clause-right : goal.returns-clause-right
returns-clause-right g c =
    right-said _ (never_falls _ _ _ c.top-top.ensures.values) c.args.closings.now _ c.in_ok-verdict.ensures.verdict
