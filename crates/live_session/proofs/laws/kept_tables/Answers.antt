use Rattle.live_session.proofs.Lawful.{kept}
use Rattle.live_session.proofs.laws.kept_tables.Goals as goal

pub returns : goal.returns
returns c = kept
