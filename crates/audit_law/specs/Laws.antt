-- The law of the audit: a text is legal exactly where it is that of a closed legal run.
use Rattle.std.specs.Prelude.{◌≡◌, ℕ, List, Vec}
use Rattle.std.specs.declared.alloc.Global.{Global}
use Rattle.bwe_specs.specs.declared.report.Report.{Report}
use Rattle.bwe_specs.specs.Allocation.{Table}
use Rattle.limit_table.specs.Tables.{total_of as table_total}
use Rattle.table_text.specs.TableText.{text_of}
use Rattle.doc_names.specs.NameTexts.{NameTexts}
use Rattle.bwe_specs.specs.Lists.{lists_of}
use Rattle.run_audit.specs.Verdict.{verdict_of}
use Rattle.run_audit.specs.declared.verdict.AuditVerdict.{AuditVerdict}
use Rattle.run_audit.specs.declared.verdict.AuditVerdict.TheVariants.{Legal}
use Rattle.audit_law.specs.ClosedRun.{AreAudited, IsClosedRun}

-- the verdict on a text, for a maker with these tables, under the text of one of them
abbrev pub verdict_on : NameTexts → (List Report → Table) → Table → List (Vec Report Global)
    → List ℕ → AuditVerdict
verdict_on names table_of table scripts text =
    verdict_of names (lists_of scripts) (λ reports. table_total (table_of reports))
    (text_of names table) text

-- the text of each closed legal run is legal
abbrev pub LegalRunIsLegal : Type 0
LegalRunIsLegal =
    (names : NameTexts) (table_of : List Report → Table) (table : Table) (tasks links : ℕ)
    (scripts : List (Vec Report Global)) (text : List ℕ)
    → AreAudited names table_of table tasks links scripts
    → IsClosedRun names table_of tasks links scripts text
    → verdict_on names table_of table scripts text ≡ Legal

-- each legal text is that of a closed legal run
abbrev pub LegalTextIsARun : Type 0
LegalTextIsARun =
    (names : NameTexts) (table_of : List Report → Table) (table : Table) (tasks links : ℕ)
    (scripts : List (Vec Report Global)) (text : List ℕ)
    → AreAudited names table_of table tasks links scripts
    → verdict_on names table_of table scripts text ≡ Legal
    → IsClosedRun names table_of tasks links scripts text
