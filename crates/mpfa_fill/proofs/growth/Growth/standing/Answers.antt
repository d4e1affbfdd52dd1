use Rattle.std.proofs.Common.{◌∙◌, arith}
use Rattle.mpfa_fill.specs.declared.standing.Standing.TheVariants.{Stopped}
use Rattle.mpfa_fill.proofs.StandingLemmas.{any_default}
use Rattle.mpfa_fill.proofs.growth.Growth.standing.Goals as goal

pub returns : goal.returns
returns g c =
    c.index.ensures ∙ any_default c.args.self.now.standings.items c.args.group c.index.result.now (Stopped 0) (omega (arith, c.requires.group, c.requires.growth.each_group))
