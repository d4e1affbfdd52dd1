-- What a step on the lines behind a document comes to, whatever that document is.
use Rattle.std.specs.Prelude.{ℕ, ◌≤◌, List, ◌++◌, length, take, Option, Result, MatchResult}
use Rattle.live_lines.specs.Cutting.{Held}
use Rattle.live_stream.specs.Talk.{Talk, Faults}
use Rattle.live_run.specs.declared.ending.Stop.{Stop}
use Rattle.live_run.specs.Follow.{Follow}
use Rattle.live_run.specs.Answers.{AnswersPiece, IsBefore, IsBehind, IsUpTo}
use Rattle.live_run.specs.Conversation.{Passed, Converses}
use Rattle.live_run.specs.Endings.{HasStopped}

-- whichever bytes behind whichever document the follower and the cutter have come to
abbrev pub Wherever : {F : Type 0} → (F → List ℕ → List Held → Type 0) → F → Held
    → (List ℕ → List ℕ → Type 0) → Type 0
Wherever has_followed follower held then = (document behind : List ℕ)
    → IsBehind has_followed document follower held behind → then document behind

-- the answers to some first bytes of a piece were written
abbrev pub AnswersFirst : Follow → List ℕ → Option Talk → Option Talk → List ℕ → List ℕ → Type 0
AnswersFirst follow document talk talk_after behind piece = (count : ℕ) × (count ≤ length piece)
    × AnswersPiece follow document talk talk_after behind (behind ++ take count piece)

-- the stream went from here to there as a conversation that was live all the way, and stopped
abbrev pub StopsOnWay : Follow → Option Talk → Option Talk → Faults → Faults → Passed → Stop
    → Type 0
StopsOnWay follow talk talk_after faults faults_after before stop = (passed : Passed)
    × Converses follow talk talk_after before passed
    × HasStopped follow 0 faults faults_after passed stop

-- Whatever front and document the lines stand behind, and whatever has passed: the stream went from
-- here to there as a conversation that was live all the way. Then `then` holds of what has passed,
-- or it stopped.
abbrev pub GoesBehind : {F A : Type 0} → Follow → (F → List ℕ → List Held → Type 0) → F → Held
    → Option Talk → Option Talk → Faults → Faults → (List ℕ → List ℕ → Passed → A → Type 0)
    → Result A Stop → Type 0
GoesBehind follow has_followed follower held talk talk_after faults faults_after then result =
    (front document : List ℕ) (before : Passed) → IsBefore follow front document
    → IsUpTo follow has_followed front document follower held before
    → (after : Passed) × Converses follow talk talk_after before after
    × MatchResult result (then front document after)
    (HasStopped follow 0 faults faults_after after)
