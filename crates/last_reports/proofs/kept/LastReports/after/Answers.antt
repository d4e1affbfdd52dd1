use Rattle.std.proofs.Common.{◌∙◌, sym, ap, take}
use Rattle.std.proofs.lemmas.List.{take_more}
use Rattle.last_reports.specs.Snapshot.{told_after}
use Rattle.last_reports.proofs.Putting.{in_range-told}
use Rattle.last_reports.proofs.kept.LastReports.after.Goals as goal

pub put-requires : goal.put-requires
put-requires c =
    in_range-told c.args.tasks c.args.links (take c.loop-report.report-index c.args.script.now) c.loop-report.last _ c.loop-report.invariant
    (c.requires c.loop-report.report-index _ c.loop-report-test.true)

pub loop-report-preserved : goal.loop-report-preserved
loop-report-preserved c =
    c.put.ensures c.args.tasks c.args.links (take c.loop-report.report-index c.args.script.now) c.loop-report.invariant
    ∙ ap (told_after c.args.tasks c.args.links) (sym (take_more c.args.script.now c.loop-report.report-index _ c.loop-report-test.true))
