-- The verdict on a text: its first fault.
use Rattle.std.specs.Prelude.{◌≡◌, ℕ, ◌<◌, Bool, true, false, ◌==◌, ◌+◌, List, [], ◌∷◌, Vec, length, take, slice_index_or, Option, Some, None, Result, Ok, Err, if◌then◌else◌}
use Rattle.std.specs.List.{All}
use Rattle.std.specs.declared.alloc.Global.{Global}
use Rattle.bwe_specs.specs.Fit.{IsFit}
use Rattle.bwe_specs.specs.declared.report.Report.{Report}
use Rattle.text_scan.specs.Lines.{left_of, lines_of}
use Rattle.doc_names.specs.NameTexts.{NameTexts}
use Rattle.run_audit.specs.History.{Reported, history_in}
use Rattle.run_audit.specs.Walk.{Walk, Walked, after_line, due_from, is_over}
use Rattle.run_audit.specs.declared.forms.Shown.{Shown}
use Rattle.run_audit.specs.declared.verdict.AuditCause.{AuditCause}
use Rattle.run_audit.specs.declared.verdict.AuditCause.TheVariants as causes
use Rattle.run_audit.specs.declared.verdict.AuditVerdict.{AuditVerdict}
use Rattle.run_audit.specs.declared.verdict.AuditVerdict.TheVariants.{Legal, Wrong}
use Rattle.run_audit.specs.declared.verdict.Fault.{Fault}
use Rattle.run_audit.specs.declared.verdict.Stop.{Stop}
use Rattle.run_audit.specs.declared.verdict.Stop.TheVariants.{At, OutOfMemory}

-- behind the last line nothing may be due, and nothing be left
abbrev pub at_end : Bool → ℕ → List ℕ → AuditVerdict
at_end false number left = Wrong number causes.Form
at_end true number [] = Legal
at_end true number (byte ∷ left) = Wrong number causes.Table

-- the total that a line shows, if any, is the one of its prefix
abbrev pub is_total : (ℕ → ℕ) → Option Shown → Bool
is_total total_at None = true
is_total total_at (Some shown) = total_at shown.prefix == shown.total

abbrev pub go_on : (ℕ → ℕ) → ℕ → (Walk → AuditVerdict) → Result Walked AuditCause → AuditVerdict
go_on total_at number next (Err cause) = Wrong number cause
go_on total_at number next (Ok walked) =
    if is_total total_at walked.shown then next walked.walk else Wrong number causes.Total

-- the first fault of the lines from this number on
unfoldable pub judge : NameTexts → List (List Report) → (ℕ → ℕ) → List ℕ → Walk → ℕ → List (List ℕ)
    → AuditVerdict
judge names scripts total_at left walk number [] = at_end (is_over walk) number left
judge names scripts total_at left walk number (line ∷ lines) =
    go_on total_at number (λ next. judge names scripts total_at left next (number + 1) lines)
    (after_line names scripts walk line)

abbrev pub judge_rest : NameTexts → List (List Report) → (List Report → ℕ) → List (List ℕ) → List ℕ
    → Result Reported Fault → AuditVerdict
judge_rest names scripts total table left (Err fault) = Wrong fault.line fault.cause
judge_rest names scripts total table left (Ok reported) =
    judge names scripts (λ prefix. total (take prefix reported.reports)) left
    (record { due = due_from scripts 0; table = table }) (length reported.reports + 1)
    reported.lines

-- the first fault of a text: the history, then what is behind it, where `total` gives the total of
-- the table of some reports
unfoldable pub verdict_of : NameTexts → List (List Report) → (List Report → ℕ) → List ℕ → List ℕ
    → AuditVerdict
verdict_of names scripts total table text =
    judge_rest names scripts total (lines_of table) (left_of text)
    (history_in names scripts (lines_of text))

-- ---- what an audit asks of its scripts

-- each report has a task or a link of so many, and an amount that is not too great
abbrev pub AreFit : ℕ → ℕ → List (Vec Report Global) → Type 0
AreFit tasks links scripts = (number : ℕ) (script : Vec Report Global) → number < length scripts
    → All (IsFit tasks links) (slice_index_or scripts number script).items

-- ---- what the code answers

-- the verdict is that of the fault with which the history ends
abbrev pub IsVerdictAt : Stop → AuditVerdict → Type 0
IsVerdictAt (At fault) verdict = verdict ≡ Wrong fault.line fault.cause
IsVerdictAt OutOfMemory verdict = ⊥
