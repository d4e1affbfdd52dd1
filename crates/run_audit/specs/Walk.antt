-- The lines behind the history: which is due, and which comes after it.
use Rattle.std.specs.Prelude.{ℕ, ◌<◌, ◌≤◌, IfSome, Bool, true, false, ◌==◌, ◌&&◌, ◌+◌, List, [], ◌∷◌, length, Option, Some, None, Result, Ok, Err, if◌then◌else◌, codes, nat_eq, nat_lt, nat_le, not, slice_index_or}
use Rattle.std.specs.List.{starts_with}
use Rattle.std.specs.Str.{bytes_eq}
use Rattle.bwe_specs.specs.declared.limits.TheConstants.{MAX_READERS, MAX_READS}
use Rattle.bwe_specs.specs.declared.report.Report.{Report}
use Rattle.text_scan.specs.Words.{words_of}
use Rattle.doc_names.specs.NameTexts.{NameTexts, entry_at}
use Rattle.run_audit.specs.Forms.{reader_of, sent_of, shown_of}
use Rattle.run_audit.specs.History.{total_of}
use Rattle.run_audit.specs.declared.forms.ReaderWords.{ReaderWords}
use Rattle.run_audit.specs.declared.forms.Shown.{Shown}
use Rattle.run_audit.specs.declared.due.Block.{Block}
use Rattle.run_audit.specs.declared.due.Due.{Due}
use Rattle.run_audit.specs.declared.due.Due.TheVariants.{Reporter, Reader, Line, Next, Table}
use Rattle.run_audit.specs.declared.due.Step.{Step}
use Rattle.run_audit.specs.declared.verdict.AuditCause.{AuditCause}
use Rattle.run_audit.specs.declared.verdict.AuditCause.TheVariants as causes

-- a line after which this is due, and which shows no total
abbrev pub leads_to : Due → Result Step AuditCause
leads_to due = Ok (record { due = due; shown = None })

-- ---- reporters

-- the line of the next reporter, or behind the last one a reader's
abbrev pub due_from : List (List Report) → ℕ → Due
due_from scripts next = if nat_lt next (length scripts) then Reporter next else Reader

abbrev pub sent_leads : NameTexts → List (List Report) → ℕ → List (List ℕ) → Option ℕ
    → Result Step AuditCause
sent_leads names scripts next words None = Err causes.Form
sent_leads names scripts next words (Some sent) =
    if bytes_eq (entry_at words 1) (entry_at names.reporters next)
    && (sent == length (slice_index_or scripts next []))
    then leads_to (due_from scripts (next + 1)) else Err causes.Sent

-- the reporter's line has to have its name and the length of its script
unfoldable pub after_reporter : NameTexts → List (List Report) → ℕ → List (List ℕ)
    → Result Step AuditCause
after_reporter names scripts next words = sent_leads names scripts next words (sent_of names words)

-- ---- readers

abbrev pub new_block : ℕ → Option ℕ → Block
new_block number wanted = record { number = number; wanted = wanted; reads = 0; prefix = 0 }

abbrev pub reader_leads : ℕ → ℕ → Option ℕ → Option ReaderWords → Result Step AuditCause
reader_leads total number wanted None = Err causes.Form
reader_leads total number wanted (Some reader) =
    if (reader.number == number) && nat_lt reader.number MAX_READERS
    then (if reader.length == total then leads_to (Line (new_block number wanted))
    else Err causes.Length)
    else Err causes.Reader

-- the reader's line has to have the next number, and the length of the history
unfoldable pub after_reader : ℕ → ℕ → Option ℕ → List (List ℕ) → Result Step AuditCause
after_reader total number wanted words = reader_leads total number wanted (reader_of words)

-- no floor is below the prefix before it, no prefix below its floor or above the history's length
abbrev pub goes_on : ℕ → Block → Shown → Bool
goes_on total block shown =
    nat_le block.prefix shown.floor
    && (nat_le shown.floor shown.prefix && nat_le shown.prefix total)

unfoldable pub after_read : ℕ → Block → Shown → Result Step AuditCause
after_read total block shown =
    if nat_lt block.reads MAX_READS
    then (if goes_on total block shown
    then Ok (record {
      due = Line (record block { reads = block.reads + 1; prefix = shown.prefix });
      shown = Some shown;
    })
    else Err causes.Prefix)
    else Err causes.Reader

-- as many as reader 0 made, which may make any number
abbrev pub is_wanted : Option ℕ → ℕ → Bool
is_wanted None reads = true
is_wanted (Some wanted) reads = reads == wanted

unfoldable pub after_final : ℕ → Block → Shown → Result Step AuditCause
after_final total block shown =
    if is_wanted block.wanted block.reads
    then (if goes_on total block shown && nat_le total shown.prefix
    then Ok (record { due = Next (block.number + 1) block.reads; shown = Some shown })
    else Err causes.Prefix)
    else Err causes.Reader

abbrev pub shown_leads : ℕ → Block → Option Shown → Option Shown → Result Step AuditCause
shown_leads total block (Some read) final = after_read total block read
shown_leads total block None (Some final) = after_final total block final
shown_leads total block None None = Err causes.Form

-- a line of a reader's block: a read, or the final line, which ends the block
unfoldable pub after_shown : ℕ → Block → List (List ℕ) → Result Step AuditCause
after_shown total block words =
    shown_leads total block (shown_of (codes "read") words) (shown_of (codes "final") words)

-- ---- the table

-- what is due, and the lines of the table that are left
pub record Walk : Type 0 where
  pub due : Due
  pub table : List (List ℕ)

-- where a line leads, and what it shows
pub record Walked : Type 0 where
  pub walk : Walk
  pub shown : Option Shown

abbrev pub with_table : List (List ℕ) → Result Step AuditCause → Result Walked AuditCause
with_table table (Ok step) =
    Ok (record { walk = record { due = step.due; table = table }; shown = step.shown })
with_table table (Err cause) = Err cause

-- a line of the table has to be the one in its place
abbrev pub after_table : List (List ℕ) → List ℕ → Result Walked AuditCause
after_table [] line = Err causes.Table
after_table (wanted ∷ table) line =
    if bytes_eq line wanted
    then Ok (record { walk = record { due = Table; table = table }; shown = None })
    else Err causes.Table

-- the line begins as one of a reader
abbrev pub is_reader : List ℕ → Bool
is_reader line = starts_with nat_eq line (codes "reader ")

-- ---- any line

-- where a line leads that is not of the table
unfoldable pub step_from : NameTexts → List (List Report) → Due → List (List ℕ)
    → Result Step AuditCause
step_from names scripts (Reporter next) words = after_reporter names scripts next words
step_from names scripts Reader words = after_reader (total_of scripts) 0 None words
step_from names scripts (Line block) words = after_shown (total_of scripts) block words
step_from names scripts (Next readers reads) words =
    after_reader (total_of scripts) readers (Some reads) words
step_from names scripts Table words = Err causes.Table

-- behind a block a line that does not begin as a reader's is the table's first
abbrev pub is_table_line : Due → List ℕ → Bool
is_table_line (Reporter next) line = false
is_table_line Reader line = false
is_table_line (Line block) line = false
is_table_line (Next readers reads) line = not (is_reader line)
is_table_line Table line = true

unfoldable pub after_line : NameTexts → List (List Report) → Walk → List ℕ
    → Result Walked AuditCause
after_line names scripts walk line =
    if is_table_line walk.due line then after_table walk.table line
    else with_table walk.table (step_from names scripts walk.due (words_of line))

-- ---- the end

abbrev pub may_end : Due → Bool
may_end (Reporter next) = false
may_end Reader = false
may_end (Line block) = false
may_end (Next readers reads) = true
may_end Table = true

-- no line is due any more
abbrev pub is_over : Walk → Bool
is_over walk = may_end walk.due && (length walk.table == 0)

-- ---- what stays so

-- a reporter that is due has a script, and a block's reader is one of those that there may be
abbrev pub IsDue : ℕ → Due → Type 0
IsDue scripts (Reporter next) = next < scripts
IsDue scripts Reader = Unit {0}
IsDue scripts (Line block) = block.number < MAX_READERS
IsDue scripts (Next readers reads) = Unit {0}
IsDue scripts Table = Unit {0}

-- what is due stays so, and the prefix that a line shows is not above the history's length
abbrev pub IsStep : ℕ → Step → Type 0
IsStep total step = ((scripts : ℕ) → IsDue scripts step.due)
    × IfSome step.shown (λ shown. shown.prefix ≤ total)
