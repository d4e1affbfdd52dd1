-- The law of the audit for a document that was read, both ways.
use Rattle.std.proofs.Common.{sym, subst, ◌∙◌}
use Rattle.bwe_specs.specs.Allocation.{allocation}
use Rattle.plan_doc.specs.Conditions.{link_count, tasks_in}
use Rattle.plan_doc.specs.Plans.{plan_in}
use Rattle.doc_names.specs.NameTexts.{texts_of}
use Rattle.audit_law.proofs.AuditLaw.{legal-run, run-legal}
use Rattle.audit_law.specs.DocumentLaws.{DocumentRunIsLegal, LegalTextIsADocumentRun}
use Rattle.audit_law.proofs.Audited.{audited, some_scripts}
use Rattle.audit_law.proofs.DocumentVerdicts.{run-is, split-is, verdict-is}

pub document-run-legal : DocumentRunIsLegal
document-run-legal bytes accepted document text is run =
    let split = subst (λ (T : Type 0). T) (sym (split-is accepted document is.parts run.scripts)) run.split in
    let closed = subst (λ (T : Type 0). T) (sym (run-is accepted document is.parts run.scripts text)) run.run in
    sym (verdict-is accepted document is.parts run.scripts text split)
    ∙ run-legal (texts_of document.names) (allocation (plan_in document)) (allocation (plan_in document) document.script.items) (tasks_in document) (link_count document) run.scripts text
    (audited bytes document is.usable (accepted, is.accepts, is.parts) run.scripts split) closed

pub legal-document-run : LegalTextIsADocumentRun
legal-document-run bytes accepted document text is legal =
    let made = some_scripts document is.usable in
    let closed = legal-run (texts_of document.names) (allocation (plan_in document)) (allocation (plan_in document) document.script.items) (tasks_in document) (link_count document) made.0 text
    (audited bytes document is.usable (accepted, is.accepts, is.parts) made.0 made.1) (verdict-is accepted document is.parts made.0 text made.1 ∙ legal) in
    record {
      scripts = made.0;
      split = subst (λ (T : Type 0). T) (split-is accepted document is.parts made.0) made.1;
      run = subst (λ (T : Type 0). T) (run-is accepted document is.parts made.0 text) closed;
    }
