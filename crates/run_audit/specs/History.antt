-- The lines of the history, which have each reporter's script in its order.
use Rattle.std.specs.Prelude.{◌≡◌, ℕ, Bool, ◌==◌, ◌&&◌, ◌+◌, ◌++◌, List, [], ◌∷◌, length, replicate, Option, Some, None, Result, Ok, Err, if◌then◌else◌, codes, nat_lt, slice_get, slice_index, slice_index_or, slice_set, sum_by}
use Rattle.std.specs.Str.{bytes_eq}
use Rattle.bwe_specs.specs.declared.report.Target.{Target}
use Rattle.bwe_specs.specs.declared.report.Target.TheVariants.{Task, Link}
use Rattle.bwe_specs.specs.declared.report.Report.{Report}
use Rattle.text_scan.specs.Words.{words_of}
use Rattle.run_audit.specs.Words.{is_word}
use Rattle.doc_names.specs.NameTexts.{NameTexts, entry_at}
use Rattle.run_audit.specs.Forms.{history_of, report_of}
use Rattle.run_audit.specs.declared.forms.ReportWords.{ReportWords}
use Rattle.run_audit.specs.declared.verdict.AuditCause.{AuditCause}
use Rattle.run_audit.specs.declared.verdict.AuditCause.TheVariants.{Form, Script}
use Rattle.run_audit.specs.declared.verdict.Fault.{Fault}
use Rattle.run_audit.specs.declared.verdict.Stop.{Stop}
use Rattle.run_audit.specs.declared.verdict.Stop.TheVariants.{At, OutOfMemory}

-- how many reports the scripts have
abbrev pub total_of : List (List Report) → ℕ
total_of scripts = sum_by length scripts

-- the reports so far, and how many of each script they have
pub record Printed : Type 0 where
  pub reports : List Report
  pub taken : List ℕ

abbrev pub fault : {A : Type 0} → ℕ → AuditCause → Result A Fault
fault line cause = Err (record { line = line; cause = cause })

-- ---- the first line

abbrev pub begins : {A : Type 0} → ℕ → Option ℕ → Result A Fault → Result A Fault
begins total None next = fault 0 Form
begins total (Some number) next = if number == total then next else fault 0 Script

-- ---- the reports

-- the report of the reporter's script that comes next
abbrev pub next_of : List (List Report) → List ℕ → ℕ → Option Report
next_of scripts taken reporter =
    slice_get (slice_index_or scripts reporter []) (slice_index taken reporter)

-- the line is of this task or link
unfoldable pub is_of : NameTexts → List (List ℕ) → Target → Bool
is_of names words (Task number) =
    is_word words 0 (codes "report") && bytes_eq (entry_at words 3) (entry_at names.tasks number)
is_of names words (Link number) =
    is_word words 0 (codes "capacity") && bytes_eq (entry_at words 3) (entry_at names.links number)

-- the line is of this report, and in its place
unfoldable pub is_line_of : NameTexts → List (List ℕ) → ReportWords → ℕ → Report → Bool
is_line_of names words told place report =
    (told.place == place) && ((told.amount == report.amount) && is_of names words report.target)

-- with one report more of this reporter
abbrev pub with_report : Printed → ℕ → Report → Printed
with_report printed reporter report = record {
  reports = printed.reports ++ report ∷ [];
  taken = slice_set printed.taken reporter (slice_index printed.taken reporter + 1);
}

-- the line number of the next report: the first line has no report
abbrev pub line_after : Printed → ℕ
line_after printed = length printed.reports + 1

unfoldable pub take_next : NameTexts → Printed → List (List ℕ) → ReportWords → Option Report
    → Result Printed Fault
take_next names printed words told None = fault (line_after printed) Script
take_next names printed words told (Some report) =
    if is_line_of names words told (length printed.reports) report
    then Ok (with_report printed told.reporter report) else fault (line_after printed) Script

unfoldable pub take_words : NameTexts → List (List Report) → Printed → List (List ℕ)
    → Option ReportWords → Result Printed Fault
take_words names scripts printed words None = fault (line_after printed) Form
take_words names scripts printed words (Some told) =
    take_next names printed words told (next_of scripts printed.taken told.reporter)

-- the line of a report has to be that of the next report of its reporter's script, with the next
-- place
unfoldable pub take_line : NameTexts → List (List Report) → Printed → List ℕ → Result Printed Fault
take_line names scripts printed line =
    take_words names scripts printed (words_of line) (report_of names (words_of line))

-- the reports, and the lines behind theirs
pub record Reported : Type 0 where
  pub reports : List Report
  pub lines : List (List ℕ)

abbrev pub continue_with : (Printed → Result Reported Fault) → Result Printed Fault
    → Result Reported Fault
continue_with next (Ok printed) = next printed
continue_with next (Err error) = Err error

-- lines, until there are as many reports as the scripts have
unfoldable pub take_lines : NameTexts → List (List Report) → Printed → List (List ℕ)
    → Result Reported Fault
take_lines names scripts printed [] =
    if nat_lt (length printed.reports) (total_of scripts)
    then fault (line_after printed) Form else Ok (record { reports = printed.reports; lines = [] })
take_lines names scripts printed (line ∷ lines) =
    if nat_lt (length printed.reports) (total_of scripts)
    then continue_with (λ next. take_lines names scripts next lines)
    (take_line names scripts printed line)
    else Ok (record { reports = printed.reports; lines = line ∷ lines })

abbrev pub none_printed : List (List Report) → Printed
none_printed scripts = record { reports = []; taken = replicate (length scripts) 0 }

-- the history that a text begins with, or its first fault
unfoldable pub history_in : NameTexts → List (List Report) → List (List ℕ) → Result Reported Fault
history_in names scripts [] = fault 0 Form
history_in names scripts (line ∷ lines) =
    begins (total_of scripts) (history_of (words_of line))
    (take_lines names scripts (none_printed scripts) lines)

-- ---- what the code answers

-- the fault with which the reading ends, unless memory ran out
abbrev pub IsStop : {A : Type 0} → Result A Fault → Stop → Type 0
IsStop read (At fault) = read ≡ Err fault
IsStop read OutOfMemory = Unit {0}
