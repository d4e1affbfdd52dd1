use Rattle.std.proofs.Common.{◌∙◌, ap, arith}
use Rattle.bwe_specs.specs.Filling.{closed_links}
use Rattle.mpfa_fill.specs.Growth.{closings_in}
use Rattle.mpfa_fill.specs.Standing.{standing_under}
use Rattle.mpfa_fill.specs.declared.standing.Standing.TheVariants.{Stopped}
use Rattle.mpfa_fill.proofs.Closed.{under-reverse}
use Rattle.mpfa_fill.proofs.StandingLemmas.{any_default}
use Rattle.mpfa_fill.proofs.growth.Growth.move_on.Goals as goal

pub returns-clause-after : goal.returns-clause-after
returns-clause-after g c =
    let groups = c.args.self.now.plan.now in
    c.standing_after-after.ensures
    ∙ under-reverse groups c.args.group c.args.self.now.closings c.args.closing c.index-before.result.now
    ∙ ap (standing_under groups c.args.group (closed_links (closings_in c.args.self.now)) c.args.closing)
    (c.index-before.ensures ∙ any_default c.args.self.now.standings.items c.args.group c.index-before.result.now (Stopped 0) (omega (arith, c.requires.group, c.requires.standings)))
