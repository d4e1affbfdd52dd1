use Rattle.max_min.proofs.Last.{pushing-out}
use Rattle.max_min.proofs.laws.pushing_out_law.Goals as goal

pub returns : goal.returns
returns c = pushing-out
