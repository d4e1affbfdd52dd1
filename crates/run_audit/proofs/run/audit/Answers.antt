use Rattle.std.proofs.Common.{rules, subst, sym}
use Rattle.std.specs.List.{All}
use Rattle.bwe_specs.specs.declared.report.Report.{Report}
use Rattle.bwe_specs.specs.Fit.{IsFit}
use Rattle.doc_names.specs.NameTexts.{texts_of}
use Rattle.bwe_specs.specs.Lists.{lists_of}
use Rattle.text_scan.specs.Lines.{lines_of}
use Rattle.run_audit.proofs.Fits.{history_fits, next_fits}
use Rattle.run_audit.proofs.Verdicts.{rest_verdict, stopped_verdict}
use Rattle.run_audit.proofs.run.audit.Goals as goal

pub audit_rest-requires-clause-fit : goal.audit_rest-requires-clause-fit
audit_rest-requires-clause-fit g c =
    let P : Report → Type 0 = IsFit (g.M.Maker.plan_tasks (g.M.Maker.plan c.args.maker)) (g.M.Maker.plan_links (g.M.Maker.plan c.args.maker)) in
    subst (All P) (sym c.deref.ensures.value)
    (history_fits (texts_of c.args.names.now) (lists_of c.args.scripts.now) P (λ taken reporter. next_fits P c.args.scripts.now c.requires.fit reporter _) (lines_of c.args.text.now)
    (record { reports = c.in-Ok.history.items; lines = c.read_history.new.text.lines }) (search rules))

pub returns-in-Ok : goal.returns-in-Ok
returns-in-Ok g c =
    rest_verdict (texts_of c.args.names.now) (lists_of c.args.scripts.now)
    (λ reports. g.M.Table.Posted.total_of (g.M.Maker.table_of (g.M.Maker.plan c.args.maker) reports)) c.args.table.now c.args.text.now c.audit_rest.result
    c.in-Ok.history.items c.read_history.new.text.lines c.read_history.new.text.left c.read_history.new.text.number c.new.result.lines
    (search rules) (search rules) (search rules) (search rules)
    (rw (c.deref.ensures.value) at c.audit_rest.ensures)

pub returns-in-Err : goal.returns-in-Err
returns-in-Err g c =
    stopped_verdict (texts_of c.args.names.now) (lists_of c.args.scripts.now)
    (λ reports. g.M.Table.Posted.total_of (g.M.Maker.table_of (g.M.Maker.plan c.args.maker) reports)) c.args.table.now c.args.text.now c.verdict_at.result
    c.in-Err.stop (search rules) c.verdict_at.ensures
