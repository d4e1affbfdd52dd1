-- The laws that join two commands, and two calls.
use Rattle.std.specs.Prelude.{◌≡◌, ◌↔◌, ℕ, ◌≤◌, ◌++◌, false, List, length, codes, Some}
use Rattle.std.specs.Io.KnownBytes.{Appends, Keeps}
use Rattle.bwe_io.specs.Bytes.{AppendsPrefix}
use Rattle.bwe_io.specs.Faults.{HasRisen}
use Rattle.command_line.specs.Lines.{Text, command_line_of}
use Rattle.command_line.specs.Ranges.{IsInRange}
use Rattle.command_line.specs.declared.CommandLine.TheVariants.{Audit, Run, Solve}
use Rattle.one_run.specs.Endings.{Reply, Served, max_long_input}
use Rattle.solve_reply.specs.SolveCall.{IsSolved}
use Rattle.two_part.specs.TwoPart.{IsTwoPart}
use Rattle.top_call.specs.TopCall.{IsServed, is_too_long, replies}

-- What `run` wrote with exit status 0, behind its document, gets `legal` and exit status 0 from
-- `audit`.
abbrev pub RunsAreLegal : Type 0
RunsAreLegal =
    (readers reads : ℕ) (document digits input : List ℕ) (ran audited : Reply)
    → IsInRange (Run readers reads)
    → replies (Run readers reads) document ran → ran.status ≡ 0
    → IsTwoPart input digits document ran.text → replies Audit input audited
    → audited ≡ record { status = 0; text = codes "legal\n" }

-- ---- the same of two calls, each by how it ended

-- the source of a call had this input to give, and its sink got this text
pub record HasGot {S K : Type 0} (served : Served S K) (input text : List ℕ) : Type 0 where
  pub before : List ℕ
  pub given : served.left served.source ≡ Some input
  pub first : served.written served.sink ≡ Some before
  pub last : served.written served.sink_after ≡ Some (before ++ text)

-- how a call may end that finds a text legal: its source or its sink may fail, or memory be
-- wanting, but it says nothing else
pub data IsFoundLegal {S K : Type 0} (served : Served S K) : ℕ → Type 0 where
  legal : Appends (served.written served.sink) (served.written served.sink_after) (codes "legal\n")
      → IsFoundLegal served 0
  read_fault : HasRisen (served.read_faults served.source) (served.read_faults served.source_after)
      → Keeps (served.written served.sink) (served.written served.sink_after)
      → IsFoundLegal served 4
  write_fault : HasRisen (served.write_faults served.sink) (served.write_faults served.sink_after)
      → AppendsPrefix (served.written served.sink) (served.written served.sink_after)
      (codes "legal\n") → IsFoundLegal served 5
  out_of_memory : Keeps (served.written served.sink) (served.written served.sink_after)
      → IsFoundLegal served 6

-- Where a call for `run` ended with exit status 0, a call for `audit` on its document and what it
-- wrote, together no longer than an input with that document may be, finds that legal.
abbrev pub WhatRanIsFoundLegal : Type 0 → Type 0 → Type 0 → Type 0 → Type 0
WhatRanIsFoundLegal S K T L =
    (words : List Text) (readers reads : ℕ) (ran : Served S K) (document text : List ℕ)
    → command_line_of words ≡ Some (Run readers reads) → IsServed (command_line_of words) ran 0
    → HasGot ran document text
    → (digits input : List ℕ) (audited : Served T L) (status : ℕ)
    → IsTwoPart input digits document text → length input ≤ max_long_input
    → is_too_long Audit input ≡ false → audited.left audited.source ≡ Some input
    → IsServed (Some Audit) audited status
    → IsFoundLegal audited status

-- ---- the call that serves `solve` alone

-- `solve_once` may end as a call for the command `solve` may, and in no other way.
abbrev pub SolvedIsServed : Type 0 → Type 0 → Type 0
SolvedIsServed S K =
    (served : Served S K) (status : ℕ)
    → IsSolved served status ↔ IsServed (Some Solve) served status
