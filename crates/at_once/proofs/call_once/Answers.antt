use Rattle.std.proofs.Common.{rules}
use Rattle.at_once.proofs.Calling.{calls_unrefused}
use Rattle.at_once.proofs.call_once.Goals as goal

pub returns : goal.returns
returns g c = record { calls = calls_unrefused g.H.Fn c.args.call.now 0 c.args.item.now c.call.result _ (search rules) }
