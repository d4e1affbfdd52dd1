-- A call that serves the command `solve` alone.
use Rattle.std.specs.Prelude.{◌≡◌, ℕ, ⊤, true, false, List, Option, Some, None}
use Rattle.one_run.specs.Endings.{Ending, Reply, Served}
use Rattle.one_run.specs.Lengths.{document_is_too_long}
use Rattle.solve_reply.specs.Refused.{document_reply}
use Rattle.solve_reply.specs.SolveReply.{solve_accepted}

-- Source and sink went from here to there as an ending with this exit status allows, of the one
-- command that reads an input and writes what `solve` has for it.
abbrev pub IsSolved : {S K : Type 0} → Served S K → ℕ → Type 0
IsSolved served status =
    Ending (record {
      reads = λ (_ : ⊤). true;
      is_too_long = λ _ input. document_is_too_long input;
      replies = λ _ input given. given ≡ document_reply solve_accepted input;
    }) (Some tt) served status

-- what `solve` has for an input, or nothing where the input is too long for what it is
abbrev pub IsForInput : List ℕ → Option Reply → Type 0
IsForInput input None = document_is_too_long input ≡ true
IsForInput input (Some reply) =
    (document_is_too_long input ≡ false) × (reply ≡ document_reply solve_accepted input)
