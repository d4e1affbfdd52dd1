use Rattle.std.proofs.Common.{sym, subst}
use Rattle.bwe_specs.specs.Filling.{Wan}
use Rattle.mpfa_fill.proofs.MomentLemmas.{never_falls}
use Rattle.link_front.specs.Front.{wan_in, closings_in}
use Rattle.closing_walk.specs.Ends.{FitsBy}
use Rattle.closing_walk.proofs.EndLoads.{fits-by}
use Rattle.closing_walk.proofs.ends.is_over_by.Goals as goal

pub returns-then-fits-clause-over : goal.returns-then-fits-clause-over
returns-then-fits-clause-over g c =
    let wan : Wan = wan_in g.V.GroupValues.meaning c.args.front.now in
    sym (fits-by wan (never_falls _ _ _ c.requires.front.growth.known) (closings_in c.args.front.now) c.args.ends.now c.requires.bounds c.args.link c.requires.link c.args.share c.requires.last
    (subst (FitsBy c.args.ends.now c.args.link c.args.share) c.capacity.ensures (c.fits.ensures c.if-fits.true)))
