use Rattle.std.proofs.Common.{arith}
use Rattle.tiers.proofs.Lowered.{added-all}
use Rattle.tiers.proofs.fillings.add_loads.Goals as goal

pub returns : goal.returns
returns c = added-all c.args.loads.now c.loop-link.loads c.args.more.now c.loop-link.link c.loop-link.invariant (omega arith)
