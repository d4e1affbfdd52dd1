use Rattle.std.proofs.Common.{sym}
use Rattle.live_run.proofs.Fronts.{has-document}
use Rattle.live_run.proofs.front.whole.Goals as goal

pub returns-in-Some : goal.returns-in-Some
returns-in-Some c = has-document c.args.bytes.now c.in-Some.parts (sym c.in-Some.ensures.exact) c.requires

pub returns-in-None : goal.returns-in-None
returns-in-None c = (sym c.in-None.ensures.exact, c.requires)
