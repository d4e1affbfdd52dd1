use Rattle.std.proofs.Common.{◌∙◌}
use Rattle.last_reports.proofs.Putting.{both, put-task, put-link}
use Rattle.last_reports.proofs.kept.LastReports.put.Goals as goal

pub returns-in-Task : goal.returns-in-Task
returns-in-Task c = λ tasks links reports was.
    put-task tasks links c.in-Task.number reports c.args.report (both c.self.inside.tasks.items c.self.inside.links.items) c.in-Task.is (c.self.view_is ∙ was)

pub returns-in-Link : goal.returns-in-Link
returns-in-Link c = λ tasks links reports was.
    put-link tasks links c.in-Link.number reports c.args.report (both c.self.inside.tasks.items c.self.inside.links.items) c.in-Link.is (c.self.view_is ∙ was)
