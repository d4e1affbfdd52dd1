use Rattle.std.proofs.Common.{arith}
use Rattle.tiers.proofs.Lowered.{lowered-all}
use Rattle.tiers.proofs.fillings.lower.Goals as goal

pub returns : goal.returns
returns c =
    lowered-all c.args.topology.now c.loop-link.topology c.args.loads.now c.loop-link.link c.loop-link.invariant (omega (arith, c.links-link-end.ensures.count))
