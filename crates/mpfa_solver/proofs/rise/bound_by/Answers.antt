use Rattle.std.proofs.Common.{subst}
use Rattle.bwe_specs.specs.Values.{NeverFalls}
use Rattle.mpfa_fill.proofs.MomentLemmas.{never_falls}
use Rattle.mpfa_solver.proofs.Limits.{bound-last_fit, last_fit-along}
use Rattle.mpfa_solver.proofs.rise.bound_by.Goals as goal

pub returns-clause-bound : goal.returns-clause-bound
returns-clause-bound g c =
    let r = c.requires.rise in
    let never : NeverFalls g.S.Search.wan = subst NeverFalls r.same_wan (never_falls _ _ _ r.is_moment.growth.known) in
    bound-last_fit g.S.Search.wan never g.S.Search.closings g.S.Search.low r.last c.args.link c.requires.link c.args.high c.in_ok-last_fit.field-0 c.requires.high
    (last_fit-along g.S.Search.wan _ g.S.Search.closings _ c.args.link g.S.Search.low c.args.low c.args.high c.in_ok-last_fit.field-0 r.same_wan r.same_closings r.same_low c.in_ok-last_fit.ensures)
