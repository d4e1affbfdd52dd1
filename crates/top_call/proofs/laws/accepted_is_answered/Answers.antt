use Rattle.top_call.proofs.Statuses.{accepted-is-answered}
use Rattle.top_call.proofs.laws.accepted_is_answered.Goals as goal

pub returns : goal.returns
returns g c = accepted-is-answered _ _
