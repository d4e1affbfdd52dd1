use Rattle.top_call.proofs.RunsAreLegal.{runs-are-legal}
use Rattle.top_call.proofs.laws.runs_are_legal.Goals as goal

pub returns : goal.returns
returns c = runs-are-legal
