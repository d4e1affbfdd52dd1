use Rattle.std.proofs.Common.{◌≡◌, ℕ, ◌<◌, get_or}
use Rattle.board_log.specs.Roll.{own_of}
use Rattle.board.specs.Reporting.{Reporting}
use Rattle.board.proofs.steps.compare_all.Given as goal

abbrev pub invariant-loop-pass : goal.invariant-loop-pass
invariant-loop-pass g l = record {
  roll : l.roll ≡ l.initial.roll;
  passes : l.passes ≡ l.initial.passes;
  exact : (k : ℕ) (other : Reporting) → k < l.pass-index → (get_or l.initial.passes k other).own ≡ own_of (get_or l.initial.passes k other).number l.initial.roll.log;
}
