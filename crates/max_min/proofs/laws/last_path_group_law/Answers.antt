use Rattle.max_min.proofs.Last.{last-path-group}
use Rattle.max_min.proofs.laws.last_path_group_law.Goals as goal

pub returns : goal.returns
returns c = last-path-group
