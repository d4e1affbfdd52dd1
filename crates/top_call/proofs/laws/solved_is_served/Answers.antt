use Rattle.top_call.proofs.Solved.{solved-is-served}
use Rattle.top_call.proofs.laws.solved_is_served.Goals as goal

pub returns : goal.returns
returns g c = solved-is-served
