use Rattle.top_call.proofs.Statuses.{nothing-is-written}
use Rattle.top_call.proofs.laws.nothing_is_written.Goals as goal

pub returns : goal.returns
returns g c = nothing-is-written _ _
