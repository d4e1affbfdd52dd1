use Rattle.std.proofs.Common.{◌≡◌, take}
use Rattle.last_reports.specs.Snapshot.{told_after}
use Rattle.last_reports.proofs.kept.LastReports.after.Given as goal

abbrev pub invariant-loop-report : goal.invariant-loop-report
invariant-loop-report l = l.last ≡ told_after l.tasks l.links (take l.report-index l.script)
