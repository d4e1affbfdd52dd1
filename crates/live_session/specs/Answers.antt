-- What is written for a document, and for each line behind it.
use Rattle.std.specs.Prelude.{ℕ, ◌+◌, Bool, List, [], length, map, Result, Ok, Err, is_ok}
use Rattle.bwe_specs.specs.Allocation.{Plan, allocation}
use Rattle.allocator.specs.Frames.{task_count}
use Rattle.last_reports.specs.Snapshot.{snapshot}
use Rattle.doc_parts.specs.Document.{Accepted, document}
use Rattle.doc_parts.specs.Plans.{plan_of}
use Rattle.doc_refusals.specs.Refusals.{Refusal}
use Rattle.refusal_text.specs.RefusalLines.{refusal_line}
use Rattle.table_text.specs.TableText.{text_of}
use Rattle.live_lines.specs.Cutting.{Held}
use Rattle.live_lines.specs.Known.{Known}
use Rattle.live_lines.specs.Meaning.{meaning_of}
use Rattle.live_lines.specs.declared.line.LineMeaning.{LineMeaning}
use Rattle.live_lines.specs.declared.line.LineMeaning.TheVariants.{NewReport, Post, State, Refused}
use Rattle.change_text.specs.ChangeText.{change_text_of}
use Rattle.change_text.specs.StateText.{state_text_of}
use Rattle.change_text.specs.RefusedText.{refused_text_of}
use Rattle.live_session.specs.Standing.{Standing, at_first, after_lines}

-- what lines may name in an accepted document, and who owns it
abbrev pub known_of : Accepted → Known
known_of accepted = record {
  names = accepted.names;
  task_owners = accepted.task_owners;
  link_owners = accepted.link_owners;
}

-- what lines have made of an accepted document
abbrev pub standing_in : Accepted → List Held → Standing
standing_in accepted lines =
    after_lines (at_first accepted.script) (map (meaning_of (known_of accepted)) lines)

-- the answer to a line of this number: nothing to a report; to a post what has changed since the
-- table that was written last; to `state` the last report of each task and link; and a line to one
-- that is refused
abbrev pub answer_in : Known → Plan → Standing → ℕ → LineMeaning → List ℕ
answer_in known plan standing number (NewReport report) = []
answer_in known plan standing number Post =
    change_text_of known.names (allocation plan standing.written)
    (allocation plan standing.accepted)
answer_in known plan standing number State =
    state_text_of known.names
    (snapshot (task_count plan) (length plan.capacities) standing.accepted)
    (length standing.accepted)
answer_in known plan standing number (Refused cause) = refused_text_of number cause

-- the answer to a line of an accepted document, after those before it; lines count from 1
abbrev pub answer_after : Accepted → List Held → Held → List ℕ
answer_after accepted lines line =
    answer_in (known_of accepted) (plan_of accepted) (standing_in accepted lines) (length lines + 1)
    (meaning_of (known_of accepted) line)

-- the table text of an accepted document, as `bwe solve` writes it
abbrev pub table_text_of : Accepted → List ℕ
table_text_of accepted =
    text_of (known_of accepted).names (allocation (plan_of accepted) accepted.script)

abbrev pub first_by : Result Accepted Refusal → List ℕ
first_by (Ok accepted) = table_text_of accepted
first_by (Err refusal) = refusal_line refusal

abbrev pub answer_by : Result Accepted Refusal → List Held → Held → List ℕ
answer_by (Ok accepted) lines line = answer_after accepted lines line
answer_by (Err refusal) lines line = []

-- ---- by the bytes of the document

-- whether it is accepted
unfoldable pub accepts : List ℕ → Bool
accepts bytes = is_ok (document bytes)

-- what is written first: the table text, or the line of the refusal
unfoldable pub first_text : List ℕ → List ℕ
first_text bytes = first_by (document bytes)

-- what is written for a line, after those before it
unfoldable pub answer_of : List ℕ → List Held → Held → List ℕ
answer_of bytes lines line = answer_by (document bytes) lines line
