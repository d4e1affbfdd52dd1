-- What one step of a conversation leaves, from what it read and wrote.
use Rattle.std.proofs.Common.{◌≡◌, ◌∙◌, ℕ, ◌+◌, ◌≤◌, List, [], ◌∷◌, ◌++◌, Option, Some, ap, refl, sym, subst, arith, length, take, append_assoc, length-append, None, Result, Ok, Err}
use Rattle.std.specs.Prelude.{MatchResult}
use Rattle.std.proofs.Math.Seq.{take-append-add}
use Rattle.std.proofs.lemmas.List.{take_all}
use Rattle.live_lines.specs.Cutting.{lines_from}
use Rattle.two_part.specs.TwoPart.{parts_of}
use Rattle.live_stream.specs.Talk.{Faults, NeverFall, Talk, Took, Goes, IsOver}
use Rattle.live_stream.proofs.Going.{IsOver-after}
use Rattle.live_run.specs.Follow.{Follow, called_for, follow_text, text_at}
use Rattle.live_run.specs.Conversation.{Passed, Converses}
use Rattle.live_run.specs.Answers.{Brings, EndsWith, Gives, IsAtEnd, IsBefore}
use Rattle.live_run.specs.Endings.{AreWhole, HasStopped, IsDue, IsFirstOfDue, so_far, at_end}
use Rattle.live_run.specs.declared.ending.Stop.{Stop}
use Rattle.live_run.specs.declared.ending.Stop.TheVariants.{ReadFault, WriteFault, OutOfMemory}
use Rattle.live_run.proofs.Counts.{HasRisen-after}
use Rattle.live_run.proofs.Conversing.{Converses-append, Converses-gives, Converses-nothing, Converses-reads, taken-quiet}
use Rattle.live_run.proofs.LinesBehind.{calls-more, ends-more}

pub IsOver-gives : (a b : Option Talk) (text : List ℕ) → Gives a b text → IsOver a → IsOver b
IsOver-gives a b text gives over = IsOver-after a b gives.events (taken-quiet gives.events gives.asks) gives.goes over

-- a first part of a text that is due behind what was written
pub first-due : (follow : Follow) (words : ℕ) (read written text due : List ℕ) (count : ℕ) → IsDue follow words read due → due ≡ written ++ text → count ≤ length text
    → IsFirstOfDue follow words (record { read = read; written = written ++ take count text })
first-due follow words read written text due count is same within = record {
  text = due;
  due = is;
  count = length written + count;
  within = omega (arith, within, ap length same, length-append written text);
  written_so = sym (ap (take (length written + count)) same ∙ take-append-add written text count);
}

-- whole answers, where all that is called for is written
pub all-whole : (follow : Follow) (passed : Passed) → passed.written ≡ called_for follow passed.read → AreWhole follow passed
all-whole follow passed so = record {
  count = length passed.read;
  within = omega arith;
  written_so = so ∙ ap (called_for follow) (sym (take_all (length passed.read) passed.read (omega arith)));
}

-- a call that left the stream as it was
pub Converses-kept : (follow : Follow) (a b : Option Talk) (p : Passed) → b ≡ a → Converses follow a b p p
Converses-kept follow a b p same = subst (λ talk. Converses follow a talk p p) (sym same) (Converses-nothing follow a p)

-- before a document is whole nothing is called for
pub called-none : (follow : Follow) (bytes : List ℕ) → parts_of bytes ≡ None → called_for follow bytes ≡ []
called-none follow bytes none = ap (text_at (lines_from (Some [])) follow bytes) none

called-nothing : (follow : Follow) → called_for follow [] ≡ []
unfolding parts_of
called-nothing follow = refl

pub whole-nothing : (follow : Follow) (read : List ℕ) → AreWhole follow (record { read = read; written = [] })
whole-nothing follow read = record { count = 0; within = omega arith; written_so = sym (called-nothing follow) }

-- each way to stop
pub stop-cases : (P : Stop → Type 0) (stop : Stop) → (stop ≡ ReadFault → P ReadFault) → (stop ≡ WriteFault → P WriteFault) → (stop ≡ OutOfMemory → P OutOfMemory) → P stop
stop-cases P ReadFault read write memory = read refl
stop-cases P WriteFault read write memory = write refl
stop-cases P OutOfMemory read write memory = memory refl

pub HasStopped-after : (follow : Follow) (a b c : Faults) (p : Passed) (stop : Stop) → NeverFall a b → HasStopped follow 0 b c p stop → HasStopped follow 0 a c p stop
HasStopped-after follow a b c p ReadFault never stopped = (HasRisen-after a.reads b.reads c.reads never.reads stopped.0, stopped.1)
HasStopped-after follow a b c p WriteFault never stopped = (HasRisen-after a.writes b.writes c.writes never.writes stopped.0, stopped.1)
HasStopped-after follow a b c p OutOfMemory never stopped = stopped

-- the last line, where the input was over
pub after-last : {T : Type 0} (follow : Follow) (front : List ℕ) (a b c : Faults) (talk talk_after : Option Talk) (p : Passed) (result : Result T Stop) → NeverFall a b → IsOver talk
    → MatchResult result (λ _. (IsOver talk → IsOver talk_after) × IsAtEnd follow front p) (HasStopped follow 0 b c p)
    → MatchResult result (λ _. IsOver talk_after × IsAtEnd follow front p) (HasStopped follow 0 a c p)
after-last follow front a b c talk talk_after p (Ok value) never over ended = (ended.0 over, ended.1)
after-last follow front a b c talk talk_after p (Err stop) never over stopped = HasStopped-after follow a b c p stop never stopped

module _ (follow : Follow) (front document : List ℕ) (before : IsBefore follow front document) where
  -- a piece was read, and a text was written
  pub reads-gives : (a b c : Option Talk) (p : Passed) (piece text : List ℕ) → p.written ≡ called_for follow p.read → Goes a b (Took piece ∷ []) → Gives b c text
      → Converses follow a c p (record { read = p.read ++ piece; written = p.written ++ text })
  reads-gives a b c p piece text called took gives =
      Converses-append follow a b c p (record { read = p.read ++ piece; written = p.written }) (record { read = p.read ++ piece; written = p.written ++ text })
      (Converses-reads follow a b p.read p.written piece called took)
      (Converses-gives follow b c (p.read ++ piece) p.written text (p.written ++ text) gives refl)

  module _ (p : Passed) (behind piece : List ℕ) (read_so : p.read ≡ front ++ behind) (called : p.written ≡ called_for follow p.read) where
    pub longer : (later : List ℕ) → p.read ++ later ≡ front ++ (behind ++ later)
    longer later = ap (λ read. read ++ later) read_so ∙ append_assoc front behind later

    -- what is called for with the first bytes of the piece
    pub calls : (later text : List ℕ) → Brings follow document behind (behind ++ later) text → called_for follow (p.read ++ later) ≡ p.written ++ text
    calls later text brings =
        ap (called_for follow) (longer later) ∙ calls-more follow front document behind (behind ++ later) text before brings
        ∙ ap (λ written. written ++ text) (sym (called ∙ ap (called_for follow) read_so))

    pub part-whole : (count : ℕ) (text : List ℕ) → count ≤ length piece → Brings follow document behind (behind ++ take count piece) text
        → AreWhole follow (record { read = p.read ++ piece; written = p.written ++ text })
    part-whole count text within brings = record {
      count = length p.read + count;
      within = omega (arith, within, length-append p.read piece);
      written_so = sym (ap (called_for follow) (take-append-add p.read piece count) ∙ calls (take count piece) text brings);
    }

    pub part-due : (count : ℕ) (text : List ℕ) → count ≤ length text → Brings follow document behind (behind ++ piece) text
        → IsFirstOfDue follow 0 (record { read = p.read ++ piece; written = p.written ++ take count text })
    part-due count text within brings = first-due follow 0 (p.read ++ piece) p.written text (called_for follow (p.read ++ piece)) count so_far (calls piece text brings) within

    -- the half line at the end
    pub half : (text : List ℕ) → EndsWith follow document behind text → follow_text follow p.read ≡ p.written ++ text
    half text with_text =
        ap (follow_text follow) read_so ∙ ends-more follow front document behind text before with_text
        ∙ ap (λ written. written ++ text) (sym (called ∙ ap (called_for follow) read_so))

    pub half-due : (count : ℕ) (text : List ℕ) → count ≤ length text → EndsWith follow document behind text
        → IsFirstOfDue follow 0 (record { read = p.read; written = p.written ++ take count text })
    half-due count text within with_text = first-due follow 0 p.read p.written text (follow_text follow p.read) count at_end (half text with_text) within
