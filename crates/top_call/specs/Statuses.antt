-- What an exit status tells of a call, whatever its command was.
use Rattle.std.specs.Prelude.{◌≡◌, ◌≢◌, ◌↔◌, ◌⊎◌, ℕ, ◌+◌, false, List, Option, Some}
use Rattle.std.specs.Io.KnownBytes.{Appends, Keeps}
use Rattle.bwe_io.specs.Bytes.{Takes}
use Rattle.bwe_io.specs.Faults.{HasRisen}
use Rattle.command_line.specs.declared.CommandLine.{CommandLine}
use Rattle.one_run.specs.Endings.{IsInput, Reply, Served, max_long_input}
use Rattle.top_call.specs.TopCall.{IsServed, is_too_long, reads, replies}

-- the exit statuses of an answer: 0 done, 1 the verdict is no, 3 refused
abbrev pub IsOfAnswer : ℕ → Type 0
IsOfAnswer status = (status ≡ 0) ⊎ ((status ≡ 1) ⊎ (status ≡ 3))

-- the arguments are a command, its whole input was taken in and is not too long, and what the
-- command may get for it, with this exit status, was written whole
pub record IsAnswered {S K : Type 0} (line : Option CommandLine) (served : Served S K) (status : ℕ)
    : Type 0 where
  pub is : CommandLine
  pub input : List ℕ
  pub reply : Reply
  pub line_is : line ≡ Some is
  pub taken_in : IsInput served.left served.source served.source_after (reads is) input
  pub short : is_too_long is input ≡ false
  pub replied : replies is input reply
  pub status_is : reply.status ≡ status
  pub written : Appends (served.written served.sink) (served.written served.sink_after) reply.text

-- nothing was written
abbrev pub IsSilent : {S K : Type 0} → Served S K → Type 0
IsSilent served = Keeps (served.written served.sink) (served.written served.sink_after)

-- neither the source nor the sink failed, and the source gave no more than any input may have
pub record IsWithoutFault {S K : Type 0} (served : Served S K) : Type 0 where
  pub source : HasRisen (served.read_faults served.source) (served.read_faults served.source_after)
      → ⊥
  pub sink : HasRisen (served.write_faults served.sink) (served.write_faults served.sink_after) → ⊥
  pub length : Takes (max_long_input + 1) (served.left served.source) (served.left served.source_after)
      → ⊥

-- what was taken in is not too long, and nothing that the command may get for it is a refusal
abbrev pub IsTakenIn : {S K : Type 0} → CommandLine → Served S K → Type 0
IsTakenIn is served = (input : List ℕ)
    → IsInput served.left served.source served.source_after (reads is) input
    → (is_too_long is input ≡ false)
    × ((reply : Reply) → replies is input reply → reply.status ≢ 3)

-- An answer is whole: the exit status is 0, 1 or 3 exactly where the answer with that exit status
-- was written whole
abbrev pub AnAnswerIsWhole : Type 0 → Type 0 → Type 0
AnAnswerIsWhole S K = (line : Option CommandLine) (served : Served S K) (status : ℕ)
    → IsOfAnswer status
    → IsServed line served status ↔ IsAnswered line served status

-- Nothing by halves: with the exit statuses 4 and 6 nothing was written
abbrev pub NothingIsWritten : Type 0 → Type 0 → Type 0
NothingIsWritten S K = (line : Option CommandLine) (served : Served S K) (status : ℕ)
    → IsServed line served status → (status ≡ 4) ⊎ (status ≡ 6) → IsSilent served

-- What is accepted is answered: a command whose input is taken in, where nothing fails, ends with
-- 0, 1 or, where memory runs out, 6
abbrev pub AcceptedIsAnswered : Type 0 → Type 0 → Type 0
AcceptedIsAnswered S K = (is : CommandLine) (served : Served S K) (status : ℕ)
    → IsServed (Some is) served status → IsWithoutFault served → IsTakenIn is served
    → (status ≡ 0) ⊎ ((status ≡ 1) ⊎ (status ≡ 6))
