use Rattle.std.proofs.Common.{List, ◌+◌, get_or, sym, subst, take}
use Rattle.std.proofs.lemmas.List.{take_more}
use Rattle.bwe_specs.specs.declared.report.Report.{Report}
use Rattle.bwe_specs.specs.declared.report.Target.TheVariants.{Task}
use Rattle.plain_table.specs.Reported.{Reported, reported_in, reported_with}
use Rattle.plain_table.specs.Scripts.{IsAfterScript}
use Rattle.plain_table.proofs.Scripts.{script-start, script-more}
use Rattle.plain_table.proofs.script.take_in_all.Goals as goal

abbrev no_report : Report
no_report = record { reporter = 0; target = Task 0; amount = 0 }

pub loop-report-init : goal.loop-report-init
loop-report-init c = script-start c.args.tree.now c.args.topology.now c.requires.idle

pub loop-report-preserved : goal.loop-report-preserved
loop-report-preserved c =
    let count = c.loop-report.report-index in
    let script : List Report = c.args.script.now in
    let given = c.args.topology.now.capacities in
    let first : Reported = reported_in c.args.tree.now c.args.topology.now 0 in
    let later : Reported = reported_with c.take_in.new.tree c.take_in.new.topology given (count + 1) in
    subst (IsAfterScript first later) (sym (take_more script count no_report c.loop-report-test.true))
    (script-more first (reported_with c.loop-report.tree c.loop-report.topology given count) later (take count script)
    (get_or script count no_report) (c.requires.fit count no_report c.loop-report-test.true).0
    (c.in_ok-take_in.ensures given count) c.loop-report.invariant)
