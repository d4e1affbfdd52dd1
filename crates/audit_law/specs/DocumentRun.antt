-- A closed legal run of a document, and the verdict on a text that is to be that of one.
use Rattle.std.specs.Prelude.{◌≡◌, ℕ, List, Vec, length}
use Rattle.std.specs.declared.alloc.Global.{Global}
use Rattle.bwe_specs.specs.declared.report.Report.{Report}
use Rattle.bwe_specs.specs.Allocation.{Plan, allocation}
use Rattle.allocator.specs.Frames.{task_count}
use Rattle.bwe_specs.specs.Lists.{lists_of}
use Rattle.document_scripts.specs.Scripts.{scripts_of}
use Rattle.limit_table.specs.Tables.{total_of}
use Rattle.doc_parts.specs.Document.{Accepted}
use Rattle.doc_parts.specs.Plans.{plan_of}
use Rattle.doc_names.specs.NameTexts.{NameTexts}
use Rattle.run_audit.specs.Verdict.{verdict_of}
use Rattle.run_audit.specs.declared.verdict.AuditVerdict.{AuditVerdict}
use Rattle.table_text.specs.TableText.{text_of}
use Rattle.audit_law.specs.ClosedRun.{IsClosedRun}

-- the text is that of a closed legal run of the document: of its script split by reporter, under
-- the allocations of its plan
pub record IsDocumentRun (document : Accepted) (text : List ℕ) : Type 0 where
  pub scripts : List (Vec Report Global)
  pub split : lists_of scripts ≡ scripts_of (length document.names.reporters) document.script
  pub run : IsClosedRun document.names (allocation (plan_of document))
      (task_count (plan_of document)) (length (plan_of document).capacities) scripts text

-- the first fault of a text: its reporters have the script split by reporter, each total is that of
-- the allocation of a part of its history, and its table is the allocation of the script
abbrev pub script_verdict : NameTexts → Plan → List Report → List ℕ → AuditVerdict
script_verdict names plan script text =
    verdict_of names (scripts_of (length names.reporters) script)
    (λ reports. total_of (allocation plan reports))
    (text_of names (allocation plan script)) text

-- the verdict on a text that is to be that of a run of the document
abbrev pub document_verdict : Accepted → List ℕ → AuditVerdict
document_verdict document text =
    script_verdict document.names (plan_of document) document.script text
