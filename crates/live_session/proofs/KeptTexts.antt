-- A table text that is kept by the answers to posts.
use Rattle.std.proofs.Common.{◌≡◌, ℕ, List, [], ◌∷◌, ◌++◌, length, Ok, refl, sym, ◌∙◌, ap, arith, append_assoc, append-nil}
use Rattle.std.proofs.lemmas.List.{length-map}
use Rattle.std.proofs.lemmas.List.FromFn.{length-map-range_with_len}
use Rattle.bwe_specs.specs.declared.report.Report.{Report}
use Rattle.bwe_specs.specs.Paths.{path_group_count}
use Rattle.bwe_specs.specs.Allocation.{GroupLine, Table, allocation}
use Rattle.demand_book.specs.TableChanges.{Frame}
use Rattle.allocator.specs.Frames.{task_count}
use Rattle.allocator.specs.FrameLaws.{frame_of-allocation, one_frame-allocation}
use Rattle.doc_parts.specs.Document.{Accepted, document}
use Rattle.doc_parts.specs.Plans.{plan_of}
use Rattle.table_text.specs.TableText.{text_of}
use Rattle.live_lines.specs.Cutting.{Held}
use Rattle.live_lines.specs.Meaning.{meaning_of}
use Rattle.live_lines.specs.declared.line.LineMeaning.{LineMeaning}
use Rattle.live_lines.specs.declared.line.LineMeaning.TheVariants.{NewReport, Post, State, Refused}
use Rattle.change_text.specs.ChangedText.{with_change_text}
use Rattle.change_text.specs.Laws.{IsTold}
use Rattle.change_text.proofs.ChangedFacts.{changed_is_later}
use Rattle.live_session.specs.Answers.{known_of, standing_in, answer_after, answer_by, answer_of, first_by, first_text}
use Rattle.live_session.specs.Laws.{written_table, written_text, kept_by, kept_through, FollowedTexts, KeptTexts}
use Rattle.live_session.proofs.Documents.{IsRead, are-told, is-read}
use Rattle.live_session.proofs.Lawful.{alone, kept}

answer-is : (bytes : List ℕ) (accepted : Accepted) (lines : List Held) (line : Held) → document bytes ≡ Ok accepted → answer_of bytes lines line ≡ answer_after accepted lines line
unfolding answer_of
answer-is bytes accepted lines line e = ap (λ read. answer_by read lines line) e

first-is : (bytes : List ℕ) (accepted : Accepted) → document bytes ≡ Ok accepted → first_text bytes ≡ written_text accepted []
unfolding first_text
first-is bytes accepted e = ap first_by e

-- each table of the document is told by its names
told : (accepted : Accepted) (reports : List Report) → IsRead accepted → IsTold accepted.names (allocation (plan_of accepted) reports)
told accepted reports read =
    let table : Table = allocation (plan_of accepted) reports in
    let frame = frame_of-allocation (plan_of accepted) reports in
    let links : length table.loads ≡ length (plan_of accepted).capacities = ap (λ (made : Frame). made.links) frame in
    let tasks : length table.limits ≡ task_count (plan_of accepted) = ap (λ (made : Frame). made.tasks) frame in
    let groups : length table.groups ≡ length (plan_of accepted).groups =
    sym (length-map table.groups (λ (line : GroupLine). length line.places)) ∙ ap (λ (made : Frame). length made.path_groups) frame
    ∙ length-map-range_with_len (path_group_count (plan_of accepted).groups) 0 (length (plan_of accepted).groups) in
    record {
      links = are-told accepted.names.links read.names.links;
      groups = are-told accepted.names.groups read.names.groups;
      tasks = are-told accepted.names.tasks read.names.tasks;
      each_link = omega (arith, links, read.links);
      each_group = omega (arith, groups, read.groups);
      each_task = omega (arith, tasks, read.tasks);
    }

kept-one : (bytes : List ℕ) (accepted : Accepted) (lines : List Held) (line : Held) → document bytes ≡ Ok accepted → meaning_of (known_of accepted) line ≡ Post
    → with_change_text (written_text accepted lines) (answer_of bytes lines line) ≡ written_text accepted (lines ++ line ∷ [])
kept-one bytes accepted lines line e is =
    ap (with_change_text (written_text accepted lines)) (answer-is bytes accepted lines line e ∙ (kept accepted lines line is).change)
    ∙ changed_is_later accepted.names (written_table accepted lines) (written_table accepted (lines ++ line ∷ []))
    (one_frame-allocation (plan_of accepted) (standing_in accepted lines).written (standing_in accepted (lines ++ line ∷ [])).written)
    (told accepted (standing_in accepted (lines ++ line ∷ [])).written (is-read bytes accepted e))

pub kept_texts_are : KeptTexts
kept_texts_are bytes accepted e lines line is = record {
  kept = kept-one bytes accepted lines line e is;
  made = ap (text_of accepted.names) (kept accepted lines line is).made;
}

-- one line more
one-more : (bytes : List ℕ) (accepted : Accepted) (before : List Held) (line : Held) (meaning : LineMeaning) → document bytes ≡ Ok accepted → meaning_of (known_of accepted) line ≡ meaning
    → kept_by meaning (written_text accepted before) (answer_of bytes before line) ≡ written_text accepted (before ++ line ∷ [])
one-more bytes accepted before line (NewReport report) e is = sym (ap (text_of accepted.names) (alone accepted before line (λ post. let clash : NewReport report ≡ Post = sym is ∙ post in absurd (cc))))
one-more bytes accepted before line Post e is = kept-one bytes accepted before line e is
one-more bytes accepted before line State e is = sym (ap (text_of accepted.names) (alone accepted before line (λ post. let clash : State ≡ Post = sym is ∙ post in absurd (cc))))
one-more bytes accepted before line (Refused cause) e is = sym (ap (text_of accepted.names) (alone accepted before line (λ post. let clash : Refused cause ≡ Post = sym is ∙ post in absurd (cc))))

through : (bytes : List ℕ) (accepted : Accepted) → document bytes ≡ Ok accepted → (before lines : List Held)
    → kept_through bytes (known_of accepted) before (written_text accepted before) lines ≡ written_text accepted (before ++ lines)
through bytes accepted e before [] = ap (written_text accepted) (sym (append-nil before))
through bytes accepted e before (line ∷ lines) =
    ap (λ (text : List ℕ). kept_through bytes (known_of accepted) (before ++ line ∷ []) text lines) (one-more bytes accepted before line (meaning_of (known_of accepted) line) e refl)
    ∙ through bytes accepted e (before ++ line ∷ []) lines
    ∙ ap (written_text accepted) (append_assoc before (line ∷ []) lines)

pub followed_texts_are : FollowedTexts
followed_texts_are bytes accepted e lines =
    ap (λ (text : List ℕ). kept_through bytes (known_of accepted) [] text lines) (first-is bytes accepted e) ∙ through bytes accepted e [] lines
