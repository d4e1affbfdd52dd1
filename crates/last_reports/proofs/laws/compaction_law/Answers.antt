use Rattle.last_reports.proofs.Alike.{compaction}
use Rattle.last_reports.proofs.laws.compaction_law.Goals as goal

pub returns : goal.returns
returns c = compaction
