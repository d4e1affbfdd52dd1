-- The first fault of a text, in the words of runs. Lines count from 0.
use Rattle.std.specs.Prelude.{◌≡◌, ℕ, ◌+◌, ◌<◌, List, Vec, length, take}
use Rattle.std.specs.declared.alloc.Global.{Global}
use Rattle.bwe_specs.specs.declared.report.Report.{Report}
use Rattle.bwe_specs.specs.Allocation.{Table}
use Rattle.text_scan.specs.Lines.{lines_of}
use Rattle.doc_names.specs.NameTexts.{NameTexts}
use Rattle.run_audit.specs.declared.verdict.AuditCause.{AuditCause}
use Rattle.run_audit.specs.declared.verdict.AuditCause.TheVariants.{Form, Length, Prefix, Reader, Script, Sent, Total}
use Rattle.run_audit.specs.declared.verdict.AuditCause.TheVariants as causes
use Rattle.run_audit.specs.declared.verdict.AuditVerdict.TheVariants.{Wrong}
use Rattle.audit_law.specs.ClosedRun.{AreAudited, IsClosedRun}
use Rattle.audit_law.specs.Laws.{verdict_on}

-- so many first lines of the texts are the same
abbrev pub BeginsAs : ℕ → List ℕ → List ℕ → Type 0
BeginsAs count text other = take count (lines_of other) ≡ take count (lines_of text)

-- no closed legal run has the line at fault behind the lines before it
abbrev pub NoRunGoesOn : Type 0
NoRunGoesOn =
    (names : NameTexts) (table_of : List Report → Table) (table : Table) (tasks links : ℕ)
    (scripts : List (Vec Report Global)) (text : List ℕ) (line : ℕ) (cause : AuditCause)
    → AreAudited names table_of table tasks links scripts
    → verdict_on names table_of table scripts text ≡ Wrong line cause
    → line < length (lines_of text)
    → (other : List ℕ) → IsClosedRun names table_of tasks links scripts other
    → BeginsAs (line + 1) text other → ⊥

-- the causes that no line among the reads of a reader has
abbrev pub IsNoRead : AuditCause → Type 0
IsNoRead Form = ⊥
IsNoRead Script = Unit {0}
IsNoRead Sent = Unit {0}
IsNoRead Reader = ⊥
IsNoRead Length = Unit {0}
IsNoRead Prefix = ⊥
IsNoRead Total = ⊥
IsNoRead causes.Table = Unit {0}

-- some closed legal run has the lines before the one at fault, where the cause is one of those
abbrev pub SomeRunBeginsSo : Type 0
SomeRunBeginsSo =
    (names : NameTexts) (table_of : List Report → Table) (table : Table) (tasks links : ℕ)
    (scripts : List (Vec Report Global)) (text : List ℕ) (line : ℕ) (cause : AuditCause)
    → AreAudited names table_of table tasks links scripts
    → verdict_on names table_of table scripts text ≡ Wrong line cause → IsNoRead cause
    → (other : List ℕ) × IsClosedRun names table_of tasks links scripts other
    × BeginsAs line text other
