use Rattle.std.proofs.Common.{subst}
use Rattle.bwe_specs.specs.Values.{NeverFalls}
use Rattle.mpfa_fill.proofs.MomentLemmas.{never_falls}
use Rattle.mpfa_solver.proofs.Levels.{fits-falls}
use Rattle.mpfa_solver.proofs.rise.RiseLevel.fits.Goals as goal

pub returns-then-share-self-clause-falls : goal.returns-then-share-self-clause-falls
returns-then-share-self-clause-falls g c =
    fits-falls g.S.Search.wan g.S.Search.closings g.S.Search.low (subst NeverFalls c.self.invariant.same_wan (never_falls _ _ _ c.self.invariant.is_moment.growth.known)) c.self.invariant.last

pub returns-then-share-self-2-clause-falls : goal.returns-then-share-self-2-clause-falls
returns-then-share-self-2-clause-falls g c =
    fits-falls g.S.Search.wan g.S.Search.closings g.S.Search.low (subst NeverFalls c.self.invariant.same_wan (never_falls _ _ _ c.self.invariant.is_moment.growth.known)) c.self.invariant.last

pub returns-clause-falls : goal.returns-clause-falls
returns-clause-falls g c =
    fits-falls g.S.Search.wan g.S.Search.closings g.S.Search.low (subst NeverFalls c.self.invariant.same_wan (never_falls _ _ _ c.self.invariant.is_moment.growth.known)) c.self.invariant.last
