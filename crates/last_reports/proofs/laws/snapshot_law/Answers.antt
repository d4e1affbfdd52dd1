use Rattle.last_reports.proofs.Snapshots.{snapshot-same}
use Rattle.last_reports.proofs.laws.snapshot_law.Goals as goal

pub returns : goal.returns
returns c = snapshot-same
