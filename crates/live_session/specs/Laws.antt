-- What holds of all inputs behind an accepted document.
use Rattle.std.specs.Prelude.{◌≡◌, ◌≢◌, ◌≤◌, ◌++◌, ℕ, not, Bool, true, false, List, [], ◌∷◌, length, map, filter, flat_map, codes, decimal, All, Ok}
use Rattle.bwe_specs.specs.declared.report.Report.{Report}
use Rattle.bwe_specs.specs.Allocation.{Table, allocation}
use Rattle.bwe_specs.specs.Fit.{IsInRange}
use Rattle.allocator.specs.Frames.{task_count}
use Rattle.last_reports.specs.Snapshot.{snapshot}
use Rattle.raw_document.specs.Raw.{Raw}
use Rattle.doc_parts.specs.Document.{Accepted, document, document_of_raw}
use Rattle.doc_parts.specs.Plans.{plan_of}
use Rattle.table_text.specs.TableText.{text_of}
use Rattle.live_lines.specs.Cutting.{Held, all_lines}
use Rattle.live_lines.specs.Known.{Known}
use Rattle.live_lines.specs.Meaning.{meaning_of}
use Rattle.live_lines.specs.declared.line.LineMeaning.{LineMeaning}
use Rattle.live_lines.specs.declared.line.LineMeaning.TheVariants.{NewReport, Post, State, Refused}
use Rattle.change_text.specs.ChangeText.{change_text_of}
use Rattle.change_text.specs.ChangedText.{with_change_text}
use Rattle.change_text.specs.Laws.{kept_text}
use Rattle.live_session.specs.Answers.{known_of, standing_in, answer_after, answer_of, first_text, table_text_of}

-- the table that was written last
abbrev pub written_table : Accepted → List Held → Table
written_table accepted lines = allocation (plan_of accepted) (standing_in accepted lines).written

-- the report of a line, where it is one
abbrev pub reports_in : LineMeaning → List Report
reports_in (NewReport report) = report ∷ []
reports_in Post = []
reports_in State = []
reports_in (Refused cause) = []

-- the document with the reports of these lines at the end of its script
abbrev pub with_reports : Accepted → List Held → Accepted
with_reports accepted lines =
    record accepted {
      script = accepted.script
          ++ flat_map (λ line. reports_in (meaning_of (known_of accepted) line)) lines;
    }

-- ---- Kept tables

-- a post is answered by the change from the table that was written last to the one that it writes;
-- the text of the first with the change made to it is the table text that `bwe solve` writes for
-- the document with the accepted reports at the end of its script
pub record IsKept (accepted : Accepted) (lines : List Held) (line : Held) : Type 0 where
  pub change : answer_after accepted lines line
      ≡ change_text_of (known_of accepted).names (written_table accepted lines)
      (written_table accepted (lines ++ line ∷ []))
  pub made : written_table accepted (lines ++ line ∷ [])
      ≡ allocation (plan_of accepted) (with_reports accepted lines).script
  pub kept : kept_text (known_of accepted).names (written_table accepted lines)
      (written_table accepted (lines ++ line ∷ []))
      ≡ table_text_of (with_reports accepted lines)

abbrev pub KeptTables : Type 0
KeptTables = (accepted : Accepted) (lines : List Held) (line : Held)
    → meaning_of (known_of accepted) line ≡ Post → IsKept accepted lines line

-- no other line writes a table
abbrev pub PostsAlone : Type 0
PostsAlone = (accepted : Accepted) (lines : List Held) (line : Held)
    → meaning_of (known_of accepted) line ≢ Post
    → written_table accepted (lines ++ line ∷ []) ≡ written_table accepted lines

-- ---- Kept texts

-- the text of the table that was written last
abbrev pub written_text : Accepted → List Held → List ℕ
written_text accepted lines = text_of (known_of accepted).names (written_table accepted lines)

-- a post is answered by a change text: put into the table text of before, row for row, it gives the
-- text of the table that the post writes, byte for byte, and `bwe solve` writes the same for the
-- document with the accepted reports at the end of its script
pub record IsKeptText (bytes : List ℕ) (accepted : Accepted) (lines : List Held) (line : Held)
    : Type 0 where
  pub kept : with_change_text (written_text accepted lines) (answer_of bytes lines line)
      ≡ written_text accepted (lines ++ line ∷ [])
  pub made : written_text accepted (lines ++ line ∷ [])
      ≡ table_text_of (with_reports accepted lines)

-- so it is of each post behind each document that is accepted
abbrev pub KeptTexts : Type 0
KeptTexts = (bytes : List ℕ) (accepted : Accepted) → document bytes ≡ Ok accepted
    → (lines : List Held) (line : Held) → meaning_of (known_of accepted) line ≡ Post
    → IsKeptText bytes accepted lines line

-- what a client has that keeps a table text: with the answer to a post put into it
abbrev pub kept_by : LineMeaning → List ℕ → List ℕ → List ℕ
kept_by (NewReport report) text answer = text
kept_by Post text answer = with_change_text text answer
kept_by State text answer = text
kept_by (Refused cause) text answer = text

-- and after more lines, where these stood before them
abbrev pub kept_through : List ℕ → Known → List Held → List ℕ → List Held → List ℕ
kept_through bytes known before text [] = text
kept_through bytes known before text (line ∷ lines) =
    kept_through bytes known (before ++ line ∷ [])
    (kept_by (meaning_of known line) text (answer_of bytes before line)) lines

-- a client that begins with what is written first, and puts each answer to a post into it, has the
-- text of the table that was written last, whatever lines there were
abbrev pub FollowedTexts : Type 0
FollowedTexts = (bytes : List ℕ) (accepted : Accepted) → document bytes ≡ Ok accepted
    → (lines : List Held)
    → kept_through bytes (known_of accepted) [] (first_text bytes) lines
    ≡ written_text accepted lines

-- ---- Never back

-- further lines never take a report back, neither of those accepted nor of those written, and no
-- table holds more than was accepted
pub record IsNeverBack (accepted : Accepted) (lines more : List Held) : Type 0 where
  pub accepted_so_far : length (standing_in accepted lines).accepted
      ≤ length (standing_in accepted (lines ++ more)).accepted
  pub written_so_far : (written_table accepted lines).prefix
      ≤ (written_table accepted (lines ++ more)).prefix
  pub written_of_accepted : (written_table accepted lines).prefix
      ≤ length (standing_in accepted lines).accepted

abbrev pub NeverBack : Type 0
NeverBack = (accepted : Accepted) (lines more : List Held) → IsNeverBack accepted lines more

-- ---- A refused line is no report

abbrev pub is_refused : LineMeaning → Bool
is_refused (NewReport report) = false
is_refused Post = false
is_refused State = false
is_refused (Refused cause) = true

-- the lines that are not refused
abbrev pub answered : Accepted → List Held → List Held
answered accepted lines =
    filter (λ line. not (is_refused (meaning_of (known_of accepted) line))) lines

-- leaving all refused lines out leaves the reports and the tables as they are
abbrev pub RefusedLinesAreNoReports : Type 0
RefusedLinesAreNoReports = (accepted : Accepted) (lines : List Held)
    → standing_in accepted (answered accepted lines) ≡ standing_in accepted lines

-- ---- Snapshot promise

-- the same document with an empty script
abbrev pub without_script : Accepted → Accepted
without_script accepted = record accepted { script = [] }

-- where a document is accepted, so is the same one with an empty script: of all that comes behind
-- the form of what was read, which is refusals 3 to 11
abbrev pub EmptyScriptIsAccepted : Type 0
EmptyScriptIsAccepted = (raw : Raw) (accepted : Accepted) → document_of_raw raw ≡ Ok accepted
    → document_of_raw (record raw { script = [] }) ≡ Ok (without_script accepted)

-- lines that say what `state` said, behind the same document with an empty script, and a post,
-- write the same table but for the count of reports
abbrev pub SnapshotPromise : Type 0
SnapshotPromise = (accepted : Accepted) (lines said : List Held)
    → let reports = (standing_in accepted lines).accepted in
    let plan = plan_of accepted in
    All (λ report. IsInRange (task_count plan) (length plan.capacities) report.target) reports
    → map (meaning_of (known_of accepted)) said
    ≡ map (λ report. NewReport report)
    (snapshot (task_count plan) (length plan.capacities) reports)
    → record (allocation plan (standing_in (without_script accepted) said).accepted) {
      prefix = length reports;
    } ≡ allocation plan reports

-- the bytes that `state` writes before its last line, behind the same document with an empty
-- script, and a post, write the same table but for the count of reports
pub record IsTakenUp (accepted : Accepted) (lines : List Held) (line : Held) : Type 0 where
  pub said : List ℕ
  pub written : answer_after accepted lines line
      ≡ said ++ codes "state " ++ decimal (length (standing_in accepted lines).accepted)
      ++ codes "\n"
  pub table : record
      (allocation (plan_of accepted)
      (standing_in (without_script accepted) (all_lines said)).accepted)
      { prefix = length (standing_in accepted lines).accepted }
      ≡ allocation (plan_of accepted) (standing_in accepted lines).accepted

-- so it is of each `state` behind each document that is accepted
abbrev pub PrintedSnapshot : Type 0
PrintedSnapshot = (bytes : List ℕ) (accepted : Accepted) → document bytes ≡ Ok accepted
    → (lines : List Held) (line : Held) → meaning_of (known_of accepted) line ≡ State
    → IsTakenUp accepted lines line
