use Rattle.live_session.proofs.Lawful.{promised}
use Rattle.live_session.proofs.laws.snapshot_promise.Goals as goal

pub returns : goal.returns
returns c = promised
