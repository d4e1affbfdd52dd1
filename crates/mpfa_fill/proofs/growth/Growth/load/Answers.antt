use Rattle.std.proofs.Common.{arith}
use Rattle.mpfa_fill.proofs.growth.Growth.load.Goals as goal

pub returns : goal.returns
returns g c =
    let m = c.requires.growth in
    omega (arith, c.load.ensures, m.summed.loads c.args.link (omega (arith, m.links, c.requires.link)))
