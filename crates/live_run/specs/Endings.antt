-- How a conversation may end: a row of the table of exit statuses for each way.
use Rattle.std.specs.Prelude.{◌≡◌, ◌⊎◌, ℕ, ◌<◌, ◌≤◌, Bool, true, false, List, [], length, take, codes, Option, Some, None, Result, MatchResult}
use Rattle.bwe_io.specs.Faults.{HasRisen}
use Rattle.live_stream.specs.Talk.{Talk, Faults, IsOver}
use Rattle.one_run.specs.Endings.{far_too_long_line, max_long_input, too_long_line}
use Rattle.two_part.specs.declared.Parts.{Parts}
use Rattle.live_run.specs.declared.ending.Stop.{Stop}
use Rattle.live_run.specs.declared.ending.Stop.TheVariants.{ReadFault, WriteFault, OutOfMemory}
use Rattle.two_part.specs.TwoPart.{document_in, no_parts_line, parts_of}
use Rattle.live_run.specs.Follow.{Follow, called_for, follow_text}
use Rattle.live_run.specs.Conversation.{Passed, Converses}
use Rattle.live_run.specs.Front.{HasNoDocument, SaysLong, SaysNotLong, SaysNotTooLong, SaysTooLong}

-- the usage line: the program takes no arguments
abbrev pub usage_line : List ℕ
usage_line = codes "usage: bwe-live\n"

-- the document in front is whole and not too long, and is accepted or is not
pub record IsJudged (verdict : Bool) (follow : Follow) (read : List ℕ) : Type 0 where
  pub parts : Parts
  pub found : parts_of read ≡ Some parts
  pub few : length (document_in read parts) ≤ max_long_input
  pub short : follow.is_too_long (document_in read parts) ≡ false
  pub judged : follow.accepts (document_in read parts) ≡ verdict

-- the document in front is whole, and too long for what it is
pub record IsTooLong (follow : Follow) (read : List ℕ) : Type 0 where
  pub parts : Parts
  pub found : parts_of read ≡ Some parts
  pub few : length (document_in read parts) ≤ max_long_input
  pub long : follow.is_too_long (document_in read parts) ≡ true

-- a text that may be due after these bytes, or at their end
pub data IsDue (follow : Follow) (words : ℕ) (read : List ℕ) : List ℕ → Type 0 where
  for_words : 0 < words → IsDue follow words read usage_line
  so_far : IsDue follow words read (called_for follow read)
  at_end : IsDue follow words read (follow_text follow read)
  no_front : parts_of read ≡ None → IsDue follow words read no_parts_line
  long_front : SaysLong read → parts_of read ≡ None → IsDue follow words read too_long_line
  long_document : IsTooLong follow read → IsDue follow words read too_long_line
  front_too_long : SaysTooLong read → IsDue follow words read far_too_long_line

-- a first part of a text that may be due is written
pub record IsFirstOfDue (follow : Follow) (words : ℕ) (passed : Passed) : Type 0 where
  pub text : List ℕ
  pub due : IsDue follow words passed.read text
  pub count : ℕ
  pub within : count ≤ length text
  pub written_so : passed.written ≡ take count text

-- whole answers are written: all that the first bytes read call for
pub record AreWhole (follow : Follow) (passed : Passed) : Type 0 where
  pub count : ℕ
  pub within : count ≤ length passed.read
  pub written_so : passed.written ≡ called_for follow (take count passed.read)

-- why a conversation stopped, and what is written
abbrev pub HasStopped : Follow → ℕ → Faults → Faults → Passed → Stop → Type 0
HasStopped follow words faults faults_after passed ReadFault =
    HasRisen faults.reads faults_after.reads × (passed.written ≡ called_for follow passed.read)
HasStopped follow words faults faults_after passed WriteFault =
    HasRisen faults.writes faults_after.writes × IsFirstOfDue follow words passed
HasStopped follow words faults faults_after passed OutOfMemory = AreWhole follow passed

abbrev pub stop_status : Stop → ℕ
stop_status ReadFault = 4
stop_status WriteFault = 5
stop_status OutOfMemory = 6

-- how it ended, with the bytes read and the text written
pub data Ending (follow : Follow) (words : ℕ) (talk_after : Option Talk)
    (faults faults_after : Faults) (passed : Passed) : ℕ → Type 0 where
  -- there are arguments: nothing is read
  no_words : 0 < words → passed.read ≡ [] → passed.written ≡ usage_line
      → Ending follow words talk_after faults faults_after passed 2
  -- the input has ended, and all that it calls for is written
  ended : words ≡ 0 → IsOver talk_after → IsJudged true follow passed.read
      → passed.written ≡ follow_text follow passed.read
      → Ending follow words talk_after faults faults_after passed 0
  -- the document is refused, and the row that says so is written
  refused : words ≡ 0 → IsJudged false follow passed.read
      → passed.written ≡ called_for follow passed.read
      → Ending follow words talk_after faults faults_after passed 3
  -- there is no document in front, nor the number of a long one: the input has ended, or
  -- nothing that follows would make one
  no_document : words ≡ 0 → parts_of passed.read ≡ None → SaysNotLong passed.read
      → IsOver talk_after ⊎ HasNoDocument passed.read
      → passed.written ≡ no_parts_line → Ending follow words talk_after faults faults_after passed 3
  -- the document in front is to have more than 67,108,864 bytes, and the input has ended before so
  -- many follow
  cut_short : words ≡ 0 → parts_of passed.read ≡ None → SaysLong passed.read
      → SaysNotTooLong passed.read → IsOver talk_after → passed.written ≡ too_long_line
      → Ending follow words talk_after faults faults_after passed 8
  -- it is whole, and has more bytes than it may
  too_long : words ≡ 0 → IsTooLong follow passed.read → passed.written ≡ too_long_line
      → Ending follow words talk_after faults faults_after passed 8
  -- it is to have more than 1,073,741,824 bytes, whatever follows
  far_too_long : words ≡ 0 → SaysTooLong passed.read → passed.written ≡ far_too_long_line
      → Ending follow words talk_after faults faults_after passed 8
  -- a read failed, and all that the bytes so far call for is written
  read_fault : HasRisen faults.reads faults_after.reads
      → passed.written ≡ called_for follow passed.read
      → Ending follow words talk_after faults faults_after passed 4
  -- a write failed, and a prefix of what was due is written
  write_fault : HasRisen faults.writes faults_after.writes → IsFirstOfDue follow words passed
      → Ending follow words talk_after faults faults_after passed 5
  -- memory ran out, and whole answers are written
  out_of_memory : AreWhole follow passed
      → Ending follow words talk_after faults faults_after passed 6

-- a stream went from here to there as a conversation without arguments that was live all the way,
-- and ended or stopped
abbrev pub GoesOn : Follow → Option Talk → Option Talk → Faults → Faults → Passed → Result ℕ Stop
    → Type 0
GoesOn follow talk talk_after faults faults_after before result =
    (passed : Passed) × Converses follow talk talk_after before passed
    × MatchResult result (Ending follow 0 talk_after faults faults_after passed)
    (HasStopped follow 0 faults faults_after passed)

-- Nothing was read or written before; then the stream went from here to there as a conversation
-- that was live all the way, and ended as this exit status says.
pub record IsServed (follow : Follow) (words : ℕ) (talk talk_after : Option Talk)
    (faults faults_after : Faults) (status : ℕ) : Type 0 where
  pub passed : Passed
  pub conversation : Converses follow talk talk_after (record { read = []; written = [] }) passed
  pub ending : Ending follow words talk_after faults faults_after passed status
  pub untouched : 0 < words → passed.read ≡ []
