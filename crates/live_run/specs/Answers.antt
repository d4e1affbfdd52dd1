-- Answers to the lines behind a document, as they are written.
use Rattle.std.specs.Prelude.{◌≡◌, ℕ, ◌≤◌, List, [], ◌∷◌, ◌++◌, length, take, drop, true, ⊤, Option, Some}
use Rattle.live_lines.specs.Cutting.{Held, all_lines, held_after, lines_from}
use Rattle.live_stream.specs.Talk.{Event, Took, Gave, Talk, Goes, given}
use Rattle.two_part.specs.declared.Parts.{Parts}
use Rattle.two_part.specs.TwoPart.{document_in, parts_of}
use Rattle.live_run.specs.Follow.{Follow, answers, called_for, follow_text}
use Rattle.live_run.specs.Conversation.{Passed}

-- nothing was asked for
abbrev pub AsksNothing : List Event → Type 0
AsksNothing [] = ⊤
AsksNothing (Took bytes ∷ events) = ⊥
AsksNothing (Gave bytes ∷ events) = AsksNothing events

-- the text was written, and nothing was asked for
pub record Gives (talk talk_after : Option Talk) (text : List ℕ) : Type 0 where
  pub events : List Event
  pub goes : Goes talk talk_after events
  pub asks : AsksNothing events
  pub text_so : given events ≡ text

-- some first bytes of the text were written
pub record GivesFirst (talk talk_after : Option Talk) (text : List ℕ) : Type 0 where
  pub count : ℕ
  pub within : count ≤ length text
  pub gives : Gives talk talk_after (take count text)

-- the answers to the lines that so many bytes behind a document end
abbrev pub answers_to : Follow → List ℕ → List ℕ → List ℕ
answers_to follow document behind = answers follow document [] (lines_from (Some []) behind)

-- the follower has answered the lines of these bytes, and the cutter holds what stands behind their
-- last line feed
pub record IsBehind {F : Type 0} (has_followed : F → List ℕ → List Held → Type 0)
    (document : List ℕ) (follower : F) (held : Held) (behind : List ℕ) : Type 0 where
  pub followed : has_followed follower document (lines_from (Some []) behind)
  pub held_so : held ≡ held_after (Some []) behind

-- a text that brings the answers of some bytes to those of others
abbrev pub Brings : Follow → List ℕ → List ℕ → List ℕ → List ℕ → Type 0
Brings follow document before after text =
    answers_to follow document after ≡ answers_to follow document before ++ text

-- the answers to a piece were written
pub record AnswersPiece (follow : Follow) (document : List ℕ) (talk talk_after : Option Talk)
    (before after : List ℕ) : Type 0 where
  pub text : List ℕ
  pub gives : Gives talk talk_after text
  pub brings : Brings follow document before after text

-- a first part of them
pub record AnswersPart (follow : Follow) (document : List ℕ) (talk talk_after : Option Talk)
    (before after : List ℕ) : Type 0 where
  pub text : List ℕ
  pub gives : GivesFirst talk talk_after text
  pub brings : Brings follow document before after text

-- a text that brings the answers of some bytes to those of a whole input which they are
abbrev pub EndsWith : Follow → List ℕ → List ℕ → List ℕ → Type 0
EndsWith follow document behind text =
    answers follow document [] (all_lines behind) ≡ answers_to follow document behind ++ text

-- whatever comes behind this front, its document is this one, and is accepted
pub record IsBefore (follow : Follow) (front document : List ℕ) : Type 0 where
  pub parts : Parts
  pub found : (behind : List ℕ) → parts_of (front ++ behind) ≡ Some parts
  pub document_so : (behind : List ℕ) → document_in (front ++ behind) parts ≡ document
  pub behind_so : (behind : List ℕ) → drop parts.end (front ++ behind) ≡ behind
  pub accepted : follow.accepts document ≡ true

-- the lines behind the front are answered as far as bytes have been read, and all that is called
-- for is written
pub record IsUpTo {F : Type 0} (follow : Follow) (has_followed : F → List ℕ → List Held → Type 0)
    (front document : List ℕ) (follower : F) (held : Held) (passed : Passed) : Type 0 where
  pub behind : List ℕ
  pub is_behind : IsBehind has_followed document follower held behind
  pub read_so : passed.read ≡ front ++ behind
  pub written_so : passed.written ≡ called_for follow passed.read

-- all that a whole input calls for is written, and its front is this one
pub record IsAtEnd (follow : Follow) (front : List ℕ) (passed : Passed) : Type 0 where
  pub behind : List ℕ
  pub read_so : passed.read ≡ front ++ behind
  pub written_so : passed.written ≡ follow_text follow passed.read
