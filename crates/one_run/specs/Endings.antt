-- How a call may end: a row of the table of exit statuses for each way.
use Rattle.std.specs.Prelude.{◌≡◌, ℕ, ◌+◌, ◌≤◌, ◌&&◌, nat_lt, not, Bool, true, false, List, [], length, codes, Option, Some, None}
use Rattle.std.specs.Io.KnownBytes.{Appends, Consumes, IsAtEnd, Keeps}
use Rattle.bwe_io.specs.Faults.{HasRisen}
use Rattle.bwe_io.specs.Bytes.{AppendsPrefix, Takes}

-- what a command's input gets: an exit status and a text
pub record Reply : Type 0 where
  pub status : ℕ
  pub text : List ℕ

-- the most bytes of an input whose document is not of version 4
abbrev pub max_input : ℕ
max_input = 67_108_864

-- the most bytes of any input
abbrev pub max_long_input : ℕ
max_long_input = 1_073_741_824

-- more bytes than an input may have, by whether its document is of version 4
abbrev pub is_above : Bool → List ℕ → Bool
is_above of_version_4 input = nat_lt max_input (length input) && not of_version_4

-- the row for arguments that are no command
abbrev pub usage_line : List ℕ
usage_line =
    codes "usage: bwe solve | check | run [--readers N] [--reads N] | make SEED GROUPS TASKS | bulk SEED GROUPS TASKS | audit | tiers | enforce | estimate WINDOW HEADROOM | levels SHARE\n"

-- the row for an input that has more bytes than one whose document is not of version 4 may have
abbrev pub too_long_line : List ℕ
too_long_line = codes "refused input longer than 67108864 bytes\n"

-- the row for an input that has more bytes than any may have
abbrev pub far_too_long_line : List ℕ
far_too_long_line = codes "refused input longer than 1073741824 bytes\n"

-- the commands of a program: which of them read an input, which input is too long for one, by the
-- version of its document, and what one may get for its input
pub record Lines (Line : Type 0) : Type 1 where
  pub reads : Line → Bool
  pub is_too_long : Line → List ℕ → Bool
  pub replies : Line → List ℕ → Reply → Type 0

-- a call as it is seen from outside: its source and its sink before and after, and what they tell
-- of themselves
pub record Served (S K : Type 0) : Type 0 where
  pub source : S
  pub source_after : S
  pub left : S → Option (List ℕ)
  pub read_faults : S → ℕ
  pub sink : K
  pub sink_after : K
  pub written : K → Option (List ℕ)
  pub write_faults : K → ℕ

-- what was taken in: the whole input of a command that reads one, and nothing for another
pub data IsInput {S
    : Type 0} (left : S → Option (List ℕ)) (source source_after : S) : Bool → List ℕ → Type 0 where
  nothing : source_after ≡ source → IsInput left source source_after false []
  whole : {input : List ℕ} → Consumes (left source) (left source_after) input
      → IsAtEnd (left source_after)
      → length input ≤ max_long_input → IsInput left source source_after true input

-- a text and an exit status were due
pub data IsDue {Line S K : Type 0}
    (lines : Lines Line) (line : Option Line) (served : Served S K)
    : ℕ → List ℕ → Type 0 where
  -- the arguments are no command: nothing is read
  no_line : line ≡ None → served.source_after ≡ served.source → IsDue lines line served 2 usage_line
  -- what the command may get for its input
  answered : {is : Line} {input : List ℕ} {reply : Reply} → line ≡ Some is
      → IsInput served.left served.source served.source_after (lines.reads is) input
      → lines.is_too_long is input ≡ false → lines.replies is input reply
      → IsDue lines line served reply.status reply.text
  -- the whole input was taken in, and it is too long for what its document is
  too_long : {is : Line} {input : List ℕ} → line ≡ Some is
      → IsInput served.left served.source served.source_after (lines.reads is) input
      → lines.is_too_long is input ≡ true
      → IsDue lines line served 8 too_long_line
  -- the source gave a byte more than any input may have, and that was all that was taken
  far_too_long : {is : Line} → line ≡ Some is → lines.reads is ≡ true
      → Takes (max_long_input + 1) (served.left served.source) (served.left served.source_after)
      → IsDue lines line served 8 far_too_long_line

-- whether there is an input to read
abbrev pub reads_input : {Line : Type 0} → Lines Line → Option Line → Bool
reads_input lines None = false
reads_input lines (Some line) = lines.reads line

-- the call ended with this exit status
pub data Ending {Line S K
    : Type 0} (lines : Lines Line) (line : Option Line) (served : Served S K) : ℕ → Type 0 where
  -- the text that was due was written whole
  done : {status : ℕ} {text : List ℕ} → IsDue lines line served status text
      → Appends (served.written served.sink) (served.written served.sink_after) text
      → Ending lines line served status
  -- the source failed, and nothing was written
  read_fault : {is : Line} → line ≡ Some is → lines.reads is ≡ true
      → HasRisen (served.read_faults served.source) (served.read_faults served.source_after)
      → Keeps (served.written served.sink) (served.written served.sink_after)
      → Ending lines line served 4
  -- the sink failed, and a prefix of the text that was due was written
  write_fault : {status : ℕ} {text : List ℕ} → IsDue lines line served status text
      → HasRisen (served.write_faults served.sink) (served.write_faults served.sink_after)
      → AppendsPrefix (served.written served.sink) (served.written served.sink_after) text
      → Ending lines line served 5
  -- memory ran out, and nothing was written; where there is no input to read, nothing was read
  -- either
  out_of_memory : (reads_input lines line ≡ false → served.source_after ≡ served.source)
      → Keeps (served.written served.sink) (served.written served.sink_after)
      → Ending lines line served 6

-- the text was written whole, with the exit status that it was due with; or the sink failed, with
-- exit status 5
pub data Writes (status : ℕ) (text : List ℕ) (written written_after : Option (List ℕ))
    (faults faults_after : ℕ) : ℕ → Type 0 where
  entirely : Appends written written_after text
      → Writes status text written written_after faults faults_after status
  partly : HasRisen faults faults_after → AppendsPrefix written written_after text
      → Writes status text written written_after faults faults_after 5

-- nothing was written
pub record IsSilent (due : ℕ) (written written_after : Option (List ℕ)) (status : ℕ) : Type 0 where
  pub status_is : status ≡ due
  pub keeps : Keeps written written_after
