use Rattle.max_min.proofs.Levels.{best-for-worst_off}
use Rattle.max_min.proofs.laws.worst_off_law.Goals as goal

pub returns : goal.returns
returns c = best-for-worst_off
