use Rattle.std.proofs.Common.{arith}
use Rattle.mpfa_fill.proofs.Small.{added-small}
use Rattle.growth_queries.proofs.loads.load_now.Goals as goal

pub load-requires-clause-amount : goal.load-requires-clause-amount
load-requires-clause-amount g c =
    omega (arith, c.amount-amount.ensures, added-small c.args.growth.now.plan.now c.args.growth.now.sums c.requires.summed c.args.group c.args.place c.requires.group c.requires.place)
