-- `audit`: what a text gets that is to be the text of a run.
use Rattle.std.specs.Prelude.{◌≡◌, ◌↔◌, ℕ, List}
use Rattle.bwe_specs.specs.declared.report.Report.{Report}
use Rattle.bwe_specs.specs.Allocation.{Plan}
use Rattle.audit_law.specs.DocumentRun.{IsDocumentRun, script_verdict}
use Rattle.one_run.specs.Endings.{Reply}
use Rattle.doc_parts.specs.Document.{Accepted}
use Rattle.doc_names.specs.NameTexts.{NameTexts}
use Rattle.doc_parts.specs.Plans.{plan_of}
use Rattle.run_audit.specs.AuditText.{verdict_line}
use Rattle.run_audit.specs.declared.verdict.AuditVerdict.{AuditVerdict}
use Rattle.run_audit.specs.declared.verdict.AuditVerdict.TheVariants.{Legal, Wrong}

-- exit status 0 where the text is legal, else 1
abbrev pub audit_status : AuditVerdict → ℕ
audit_status Legal = 0
audit_status (Wrong line cause) = 1

-- the verdict on the text
abbrev pub audit_reply : NameTexts → Plan → List Report → List ℕ → Reply
audit_reply names plan script text =
    let judged = script_verdict names plan script text in
    record { status = audit_status judged; text = verdict_line judged }

-- `audit`: with exit status 0 the text is that of a closed legal run of the document, with exit
-- status 1 it is not, and then the reply names its first fault
pub record IsAuditReply (document : Accepted) (text : List ℕ) (given : Reply) : Type 0 where
  pub legal : (given.status ≡ 0) ↔ IsDocumentRun document text
  pub wrong : (given.status ≡ 1) ↔ (IsDocumentRun document text → ⊥)
  pub first_fault : given ≡ audit_reply document.names (plan_of document) document.script text
