use Rattle.live_session.proofs.Printed.{printed}
use Rattle.live_session.proofs.laws.printed_snapshot.Goals as goal

pub returns : goal.returns
returns c = printed
