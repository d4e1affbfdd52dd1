-- The audit of the runs of a document: a text is legal exactly where it is that of a closed legal
-- run of the document.
use Rattle.std.specs.Prelude.{◌≡◌, ℕ, List, Vec, Ok}
use Rattle.std.specs.declared.alloc.Global.{Global}
use Rattle.bwe_specs.specs.declared.report.Report.{Report}
use Rattle.bwe_specs.specs.Allocation.{allocation}
use Rattle.bwe_specs.specs.Lists.{lists_of}
use Rattle.document_scripts.specs.Scripts.{scripts_of}
use Rattle.plan_doc.specs.declared.document.Document as read
use Rattle.plan_doc.specs.Accepted.{IsAccepted, IsDocumentOf}
use Rattle.plan_doc.specs.Conditions.{IsUsable, link_count, reporter_count, tasks_in}
use Rattle.doc_parts.specs.Document.{Accepted, document as document_of}
use Rattle.plan_doc.specs.Plans.{plan_in}
use Rattle.doc_names.specs.NameTexts.{texts_of}
use Rattle.run_audit.specs.declared.verdict.AuditVerdict.TheVariants.{Legal}
use Rattle.audit_law.specs.ClosedRun.{AreAudited}
use Rattle.audit_law.specs.DocumentRun.{IsDocumentRun, document_verdict}

-- the scripts are the document's script split by reporter
abbrev pub AreScriptsOf : read.Document → List (Vec Report Global) → Type 0
AreScriptsOf document scripts =
    lists_of scripts ≡ scripts_of (reporter_count document) document.script.items

-- an accepted document has what the law of the audit asks of names, scripts, totals and tables
abbrev pub AcceptedDocumentIsAudited : Type 0
AcceptedDocumentIsAudited =
    (bytes : List ℕ) (document : read.Document) (scripts : List (Vec Report Global))
    → IsUsable document → IsAccepted (document_of bytes) document → AreScriptsOf document scripts
    → AreAudited (texts_of document.names) (allocation (plan_in document))
    (allocation (plan_in document) document.script.items) (tasks_in document)
    (link_count document) scripts

-- The code has read the bytes as this document.
pub record IsRead (bytes : List ℕ) (accepted : Accepted) (document : read.Document) : Type 0 where
  pub accepts : document_of bytes ≡ Ok accepted
  pub parts : IsDocumentOf accepted document
  pub usable : IsUsable document

-- the text of each closed legal run of a document that was read is legal
abbrev pub DocumentRunIsLegal : Type 0
DocumentRunIsLegal =
    (bytes : List ℕ) (accepted : Accepted) (document : read.Document) (text : List ℕ)
    → IsRead bytes accepted document → IsDocumentRun accepted text
    → document_verdict accepted text ≡ Legal

-- each text that is legal for a document that was read is that of a closed legal run of it
abbrev pub LegalTextIsADocumentRun : Type 0
LegalTextIsADocumentRun =
    (bytes : List ℕ) (accepted : Accepted) (document : read.Document) (text : List ℕ)
    → IsRead bytes accepted document → document_verdict accepted text ≡ Legal
    → IsDocumentRun accepted text
