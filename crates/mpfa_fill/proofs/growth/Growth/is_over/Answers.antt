use Rattle.std.proofs.Common.{◌∙◌, ap₂, arith, nat_lt}
use Rattle.mpfa_fill.proofs.growth.Growth.is_over.Goals as goal

pub returns : goal.returns
returns g c =
    let m = c.requires.growth in
    ap₂ nat_lt c.capacity.ensures (c.load.ensures ∙ m.summed.loads c.args.link (omega (arith, m.links, c.requires.link)))
