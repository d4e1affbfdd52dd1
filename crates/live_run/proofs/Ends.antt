-- How a conversation ends, from what its document is.
use Rattle.std.proofs.Common.{◌≡◌, ◌∙◌, ℕ, ◌+◌, ◌-◌, ◌≤◌, Bool, true, false, cond, List, [], ◌++◌, Option, Some, Result, Ok, Err, ap, refl, sym, subst, arith, length, take, drop, append-nil, length-append}
use Rattle.std.specs.Prelude.{MatchResult, IfOk, IfErr}
use Rattle.std.proofs.Math.Seq.{take-append-add}
use Rattle.std.proofs.lemmas.List.{take-append-drop, take-append-le, take_rest}
use Rattle.bwe_io.specs.Faults.{HasRisen}
use Rattle.live_lines.specs.Cutting.{Held, lines_from, held_after}
use Rattle.live_stream.specs.Talk.{Faults, NeverFall, Talk, IsOver}
use Rattle.two_part.specs.declared.Parts.{Parts}
use Rattle.two_part.specs.TwoPart.{document_in, parts_of}
use Rattle.live_run.specs.declared.ending.Stop.{Stop}
use Rattle.live_run.specs.declared.ending.Stop.TheVariants.{ReadFault, WriteFault, OutOfMemory}
use Rattle.live_run.specs.Follow.{Follow, answers, called_for, text_at}
use Rattle.live_run.specs.Conversation.{Passed, Converses}
use Rattle.live_run.specs.Answers.{AnswersPiece, Brings, Gives, GivesFirst, IsAtEnd, IsBefore, IsBehind, IsUpTo, answers_to}
use Rattle.live_run.specs.Endings.{AreWhole, Ending, GoesOn, no_words, ended, refused, no_document, cut_short, too_long, far_too_long, read_fault, write_fault, out_of_memory, HasStopped, IsDue, IsFirstOfDue, IsJudged, IsServed, so_far, stop_status}
use Rattle.live_run.proofs.Conversing.{Converses-append, Converses-gives}
use Rattle.live_run.proofs.Fronts.{before-parts}
use Rattle.live_run.proofs.LinesBehind.{calls-behind, calls-more}
use Rattle.live_run.proofs.Counts.{HasRisen-after}
use Rattle.live_run.proofs.Steps.{HasStopped-after, first-due}

-- a conversation that stopped has the exit status of its stop
pub Ending-stopped : (follow : Follow) (words : ℕ) (talk : Option Talk) (a b : Faults) (p : Passed) (stop : Stop) → HasStopped follow words a b p stop → Ending follow words talk a b p (stop_status stop)
Ending-stopped follow words talk a b p ReadFault stopped = read_fault stopped.0 stopped.1
Ending-stopped follow words talk a b p WriteFault stopped = write_fault stopped.0 stopped.1
Ending-stopped follow words talk a b p OutOfMemory stopped = out_of_memory stopped

-- the bytes that were read are the front and what stands behind it
pub parted : (bytes : List ℕ) (parts : Parts) → bytes ≡ take parts.end bytes ++ drop parts.end bytes
parted bytes parts = sym (take-append-drop parts.end bytes)

-- before its lines an accepted document calls for the first text
lines-none : (follow : Follow) (document : List ℕ) → follow.first_text document ++ answers_to follow document [] ≡ follow.first_text document
unfolding lines_from
lines-none follow document = append-nil (follow.first_text document)

pub first-text : (follow : Follow) (front document : List ℕ) → IsBefore follow front document → called_for follow front ≡ follow.first_text document
first-text follow front document before =
    ap (called_for follow) (sym (append-nil front)) ∙ calls-behind follow front document before [] ∙ lines-none follow document

-- a follower that has answered nothing, and a cutter that holds nothing
pub behind-nothing : {F : Type 0} (has_followed : F → List ℕ → List Held → Type 0) (document : List ℕ) (follower : F) (held : Held)
    → has_followed follower document [] → held ≡ Some [] → IsBehind has_followed document follower held []
unfolding lines_from held_after
behind-nothing has_followed document follower held followed same = record { followed = followed; held_so = same }

-- an accepted document whose front this is, is judged so whatever comes behind it
pub judged : (follow : Follow) (front document behind read : List ℕ) → IsBefore follow front document → length document ≤ 1_073_741_824 → follow.is_too_long document ≡ false → read ≡ front ++ behind → IsJudged true follow read
judged follow front document behind read before few short same =
    subst (λ r. IsJudged true follow r) (sym same) (record {
      parts = before.parts;
      found = before.found behind;
      few = subst (λ (d : List ℕ). length d ≤ 1_073_741_824) (sym (before.document_so behind)) few;
      short = ap follow.is_too_long (before.document_so behind) ∙ short;
      judged = ap follow.accepts (before.document_so behind) ∙ before.accepted;
    })

-- a refused document calls for its first text alone
pub refused-text : (follow : Follow) (bytes : List ℕ) (parts : Parts) → parts_of bytes ≡ Some parts → follow.accepts (document_in bytes parts) ≡ false
    → called_for follow bytes ≡ follow.first_text (document_in bytes parts)
refused-text follow bytes parts e refuses =
    ap (text_at (lines_from (Some [])) follow bytes) e
    ∙ ap (λ (v : Bool). follow.first_text (document_in bytes parts) ++ cond v (answers follow (document_in bytes parts) [] (lines_from (Some []) (drop parts.end bytes))) []) refuses
    ∙ append-nil (follow.first_text (document_in bytes parts))

-- the first text begins what a whole document calls for
pub called-more : (follow : Follow) (bytes : List ℕ) (parts : Parts) → parts_of bytes ≡ Some parts
    → (more : List ℕ) × (called_for follow bytes ≡ follow.first_text (document_in bytes parts) ++ more)
called-more follow bytes parts e = (
  cond (follow.accepts (document_in bytes parts)) (answers follow (document_in bytes parts) [] (lines_from (Some []) (drop parts.end bytes))) [],
  ap (text_at (lines_from (Some [])) follow bytes) e,
)

-- ---- an opened document: what is behind its front has been read with it

module _ (follow : Follow) (front document : List ℕ) (before : IsBefore follow front document) where
  pub opened-called : (piece text : List ℕ) → Brings follow document [] piece text → called_for follow (front ++ piece) ≡ follow.first_text document ++ text
  opened-called piece text brings =
      calls-more follow front document [] piece text before brings
      ∙ ap (λ written. written ++ text) (ap (called_for follow) (append-nil front) ∙ first-text follow front document before)

  pub opened-whole : (bytes piece text : List ℕ) (count : ℕ) → bytes ≡ front ++ piece → count ≤ length piece → Brings follow document [] (take count piece) text
      → AreWhole follow (record { read = bytes; written = follow.first_text document ++ text })
  opened-whole bytes piece text count same within brings = record {
    count = length front + count;
    within = omega (arith, within, ap length same, length-append front piece);
    written_so = sym (ap (λ (read : List ℕ). called_for follow (take (length front + count) read)) same
        ∙ ap (called_for follow) (take-append-add front piece count) ∙ opened-called (take count piece) text brings);
  }

  pub opened-due : (bytes piece text : List ℕ) (count : ℕ) → bytes ≡ front ++ piece → count ≤ length text → Brings follow document [] piece text
      → IsFirstOfDue follow 0 (record { read = bytes; written = follow.first_text document ++ take count text })
  opened-due bytes piece text count same within brings =
      first-due follow 0 bytes (follow.first_text document) text (called_for follow bytes) count so_far
      (ap (called_for follow) same ∙ opened-called piece text brings) within

-- what has been read behind the front of an opened document, and that its lines are answered
module _ (follow : Follow) (bytes : List ℕ) (parts : Parts) (found : parts_of bytes ≡ Some parts) (accepted : follow.accepts (document_in bytes parts) ≡ true) where
  abbrev front : List ℕ
  front = take parts.end bytes

  abbrev document : List ℕ
  document = document_in bytes parts

  pub before-opened : IsBefore follow front document
  before-opened = before-parts follow bytes parts found accepted

  pub behind-opened : (read : List ℕ) → read ≡ bytes → bytes ≡ front ++ take (length read - parts.end) (drop parts.end read)
  behind-opened read same =
      parted bytes parts ∙ ap (λ (rest : List ℕ). front ++ rest) (ap (drop parts.end) (sym same) ∙ sym (take_rest read parts.end))

  pub up-to-opened : {F : Type 0} (has_followed : F → List ℕ → List Held → Type 0) (follower : F) (held : Held) (piece text : List ℕ) → bytes ≡ front ++ piece
      → IsBehind has_followed document follower held piece → Brings follow document [] piece text
      → IsUpTo follow has_followed front document follower held (record { read = bytes; written = follow.first_text document ++ text })
  up-to-opened has_followed follower held piece text same behind brings = record {
    behind = piece;
    is_behind = behind;
    read_so = same;
    written_so = sym (ap (called_for follow) same ∙ opened-called follow front document before-opened piece text brings);
  }

  ends-behind : (after : Passed) (talk : Option Talk) (a b c : Faults) (result : Result ℕ Stop) → length document ≤ 1_073_741_824 → follow.is_too_long document ≡ false → NeverFall a b
      → MatchResult result (λ status. (status ≡ 0) × IsOver talk × IsAtEnd follow front after) (HasStopped follow 0 b c after)
      → MatchResult result (Ending follow 0 talk a c after) (HasStopped follow 0 a c after)
  ends-behind after talk a b c (Ok status) few short never end =
      subst (λ (s : ℕ). Ending follow 0 talk a c after s) (sym end.0)
      (ended refl end.1 (judged follow front document end.2.behind after.read before-opened few short end.2.read_so) end.2.written_so)
  ends-behind after talk a b c (Err stop) few short never stopped = HasStopped-after follow a b c after stop never stopped

  -- what follows the answers to these lines follows the first text
  pub goes-behind : {F : Type 0} (has_followed : F → List ℕ → List Held → Type 0) (follower : F) (held : Held) (first then last : Option Talk) (a b c : Faults) (piece : List ℕ) (result : Result ℕ Stop)
      → length document ≤ 1_073_741_824 → follow.is_too_long document ≡ false → bytes ≡ front ++ piece → IsBehind has_followed document follower held piece → AnswersPiece follow document first then [] piece → NeverFall a b
      → ((passed : Passed) → IsUpTo follow has_followed front document follower held passed
      → (after : Passed) × Converses follow then last passed after × MatchResult result (λ status. (status ≡ 0) × IsOver last × IsAtEnd follow front after) (HasStopped follow 0 b c after))
      → GoesOn follow first last a c (record { read = bytes; written = follow.first_text document }) result
  goes-behind has_followed follower held first then last a b c piece result few short same behind done never lines =
      let text : List ℕ = follow.first_text document in
      let passed : Passed = record { read = bytes; written = text ++ done.text } in
      let ends = lines passed (up-to-opened has_followed follower held piece done.text same behind done.brings) in (
        ends.0,
        Converses-append follow first then last _ passed ends.0 (Converses-gives follow first then bytes text done.text (text ++ done.text) done.gives refl) ends.1,
        ends-behind ends.0 last a b c result few short never ends.2,
      )

-- a first part of the first text
pub first-part : (follow : Follow) (bytes : List ℕ) (parts : Parts) (count : ℕ) → parts_of bytes ≡ Some parts → count ≤ length (follow.first_text (document_in bytes parts))
    → IsFirstOfDue follow 0 (record { read = bytes; written = take count (follow.first_text (document_in bytes parts)) })
first-part follow bytes parts count e within =
    let first = follow.first_text (document_in bytes parts) in
    let more = called-more follow bytes parts e in record {
      text = called_for follow bytes;
      due = so_far;
      count = count;
      within = omega (arith, within, ap length more.1, length-append first more.0);
      written_so = sym (ap (take count) more.1 ∙ take-append-le count first more.0 within);
    }

-- ---- counts before

pub Ending-after : (follow : Follow) (talk : Option Talk) (a b c : Faults) (p : Passed) (status : ℕ) → NeverFall a b → Ending follow 0 talk b c p status → Ending follow 0 talk a c p status
Ending-after follow talk a b c p status never (no_words some read written) = no_words some read written
Ending-after follow talk a b c p status never (ended none over accepted written) = ended none over accepted written
Ending-after follow talk a b c p status never (refused none judged written) = refused none judged written
Ending-after follow talk a b c p status never (no_document none parts short why written) = no_document none parts short why written
Ending-after follow talk a b c p status never (cut_short none parts long short over written) = cut_short none parts long short over written
Ending-after follow talk a b c p status never (too_long none is written) = too_long none is written
Ending-after follow talk a b c p status never (far_too_long none says written) = far_too_long none says written
Ending-after follow talk a b c p status never (read_fault risen written) = read_fault (HasRisen-after a.reads b.reads c.reads never.reads risen) written
Ending-after follow talk a b c p status never (write_fault risen first) = write_fault (HasRisen-after a.writes b.writes c.writes never.writes risen) first
Ending-after follow talk a b c p status never (out_of_memory whole) = out_of_memory whole

pub ends-after : (follow : Follow) (talk : Option Talk) (a b c : Faults) (p : Passed) (result : Result ℕ Stop) → NeverFall a b
    → MatchResult result (Ending follow 0 talk b c p) (HasStopped follow 0 b c p) → MatchResult result (Ending follow 0 talk a c p) (HasStopped follow 0 a c p)
ends-after follow talk a b c p (Ok status) never ending = Ending-after follow talk a b c p status never ending
ends-after follow talk a b c p (Err stop) never stopped = HasStopped-after follow a b c p stop never stopped

-- ---- a line that refuses the front

pub refused-line : (follow : Follow) (t a b : Option Talk) (f0 f1 f2 : Faults) (read line : List ℕ) (status : ℕ) (result : Result ℕ Stop) → NeverFall f0 f1
    → Converses follow t a (record { read = []; written = [] }) (record { read = read; written = [] })
    → IfOk result (λ value. (value ≡ status) × Gives a b line)
    → IfErr result (λ stop. (stop ≡ WriteFault) × HasRisen f1.writes f2.writes × GivesFirst a b line)
    → IsDue follow 0 read line → (Gives a b line → Ending follow 0 b f0 f2 (record { read = read; written = line }) status)
    → (passed : Passed) × Converses follow t b (record { read = []; written = [] }) passed
    × MatchResult result (Ending follow 0 b f0 f2 passed) (HasStopped follow 0 f0 f2 passed)
refused-line follow t a b f0 f1 f2 read line status (Ok value) never first given partly due ends = (
  record { read = read; written = line },
  Converses-append follow t a b _ _ _ first (Converses-gives follow a b read [] line line given.1 refl),
  subst (λ s. Ending follow 0 b f0 f2 (record { read = read; written = line }) s) (sym given.0) (ends given.1),
)
refused-line follow t a b f0 f1 f2 read line status (Err stop) never first given partly due ends = (
  record { read = read; written = take partly.2.count line },
  Converses-append follow t a b _ _ _ first (Converses-gives follow a b read [] (take partly.2.count line) (take partly.2.count line) partly.2.gives refl),
  subst (λ s. HasStopped follow 0 f0 f2 (record { read = read; written = take partly.2.count line }) s) (sym partly.0) (
    HasRisen-after f0.writes f1.writes f2.writes never.writes partly.1,
    record { text = line; due = due; count = partly.2.count; within = partly.2.within; written_so = refl },
  ),
)

-- the same, where the front has been read already
pub refused-here : (follow : Follow) (a b : Option Talk) (f1 f2 : Faults) (read line : List ℕ) (status : ℕ) (result : Result ℕ Stop)
    → IfOk result (λ value. (value ≡ status) × Gives a b line)
    → IfErr result (λ stop. (stop ≡ WriteFault) × HasRisen f1.writes f2.writes × GivesFirst a b line)
    → IsDue follow 0 read line → (Gives a b line → Ending follow 0 b f1 f2 (record { read = read; written = line }) status)
    → GoesOn follow a b f1 f2 (record { read = read; written = [] }) result
refused-here follow a b f1 f2 read line status (Ok value) given partly due ends = (
  record { read = read; written = line },
  Converses-gives follow a b read [] line line given.1 refl,
  subst (λ s. Ending follow 0 b f1 f2 (record { read = read; written = line }) s) (sym given.0) (ends given.1),
)
refused-here follow a b f1 f2 read line status (Err stop) given partly due ends = (
  record { read = read; written = take partly.2.count line },
  Converses-gives follow a b read [] (take partly.2.count line) (take partly.2.count line) partly.2.gives refl,
  subst (λ s. HasStopped follow 0 f1 f2 (record { read = read; written = take partly.2.count line }) s) (sym partly.0) (
    partly.1,
    record { text = line; due = due; count = partly.2.count; within = partly.2.within; written_so = refl },
  ),
)

-- a conversation without words
pub served : (follow : Follow) (words : ℕ) (talk talk_after : Option Talk) (a b : Faults) (p : Passed) (status : ℕ) → words ≡ 0
    → Converses follow talk talk_after (record { read = []; written = [] }) p → Ending follow 0 talk_after a b p status → IsServed follow words talk talk_after a b status
served follow words talk talk_after a b p status none conversation ending =
    subst (λ w. IsServed follow w talk talk_after a b status) (sym none)
    (record { passed = p; conversation = conversation; ending = ending; untouched = λ some. absurd (omega (arith, some)) })
