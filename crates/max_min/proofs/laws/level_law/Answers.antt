use Rattle.max_min.proofs.Levels.{best-by-level}
use Rattle.max_min.proofs.laws.level_law.Goals as goal

pub returns : goal.returns
returns c = best-by-level
