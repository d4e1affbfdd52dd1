use Rattle.std.proofs.Common.{◌≡◌, ℕ, List, ap, ap₂, ◌∙◌}
use Rattle.bwe_specs.specs.declared.report.Report.{Report}
use Rattle.bwe_specs.specs.Allocation.{Plan, allocation}
use Rattle.one_run.specs.Endings.{Reply}
use Rattle.doc_names.specs.NameTexts.{texts_of}
use Rattle.run_audit.specs.AuditText.{verdict_line}
use Rattle.audit_answer.specs.AuditReply.{audit_status}
use Rattle.audit_law.specs.DocumentRun.{script_verdict}
use Rattle.plan_doc.specs.Plans.{plan_in}
use Rattle.audit_answer.proofs.Audits.{are-few, are-fit, verdict-is}
use Rattle.audit_answer.proofs.audit_line.audit_document.Goals as goal

abbrev reply_parts : ℕ → List ℕ → Reply
reply_parts status text = record { status = status; text = text }

pub audit-requires-clause-fit : goal.audit-requires-clause-fit
audit-requires-clause-fit c =
    rw (c.deref-3.ensures.value) (are-fit c.args.document _ (c.in_ok-first.ensures.plan ∙ c.open-allocator.ensures.plan) c.in_ok-scripts.scripts.items c.requires.tasks c.in_ok-scripts.ensures.scripts)

pub audit-requires-clause-few : goal.audit-requires-clause-few
audit-requires-clause-few c =
    rw (c.deref-3.ensures.value) (are-few c.args.document _ (c.in_ok-first.ensures.plan ∙ c.open-allocator.ensures.plan) c.in_ok-scripts.scripts.items c.in_ok-scripts.ensures.room)

pub returns : goal.returns
returns c =
    let document = c.args.document in
    let text = c.args.text.now in
    let same = c.in_ok-first.ensures.plan ∙ c.open-allocator.ensures.plan in
    let solved : c.in_ok-first.first.known.table ≡ allocation (plan_in document) document.script.items =
    c.in_ok-first.ensures.table
    ∙ ap₂ (λ (plan : Plan) (script : List Report). allocation plan script) c.open-allocator.ensures.plan (c.deref.ensures.value ∙ ap (λ script. script.items) c.open-allocator.ensures.script) in
    let found = rw (c.deref-3.ensures.value, c.deref-4.ensures.value) at c.in_ok-verdict.ensures in
    let judged : c.in_ok-verdict.verdict ≡ script_verdict (texts_of document.names) (plan_in document) document.script.items text =
    found ∙ verdict-is document _ same c.in_ok-scripts.scripts.items c.open-allocator.result.names c.open-allocator.ensures.names c.in_ok-scripts.ensures.split
    c.in_ok-first.first.known.table solved c.in_ok-table.table.items c.in_ok-table.ensures text in
    ap₂ reply_parts (c.status_of.ensures ∙ ap audit_status judged) (c.in_ok-audit_text.ensures ∙ ap verdict_line judged)
