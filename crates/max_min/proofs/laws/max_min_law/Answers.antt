use Rattle.max_min.proofs.MaxMin.{max-min}
use Rattle.max_min.proofs.laws.max_min_law.Goals as goal

pub returns : goal.returns
returns c = max-min
