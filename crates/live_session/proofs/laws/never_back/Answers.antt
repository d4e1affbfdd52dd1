use Rattle.live_session.proofs.Lawful.{never}
use Rattle.live_session.proofs.laws.never_back.Goals as goal

pub returns : goal.returns
returns c = never
