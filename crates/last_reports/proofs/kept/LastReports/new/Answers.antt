use Rattle.std.proofs.Common.{ap₂, ◌∙◌}
use Rattle.last_reports.proofs.Putting.{both, nothing-told}
use Rattle.last_reports.proofs.kept.LastReports.new.Goals as goal

pub returns : goal.returns
returns c = ap₂ both c.in_ok-nothing.ensures c.in_ok-nothing-2.ensures ∙ nothing-told c.args.tasks c.args.links
