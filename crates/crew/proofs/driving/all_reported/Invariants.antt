use Rattle.std.proofs.Common.{◌≡◌, ℕ, ◌<◌, Ok, get_or}
use Rattle.std.specs.Prelude.{Result}
use Rattle.board.specs.declared.refusal.ReportError.{ReportError}
use Rattle.crew.proofs.driving.all_reported.Given as goal

abbrev pub invariant-loop-answer : goal.invariant-loop-answer
invariant-loop-answer l = (number : ℕ) (other : Result (Unit {0}) ReportError) → number < l.answer-index → get_or l.answers number other ≡ Ok tt
