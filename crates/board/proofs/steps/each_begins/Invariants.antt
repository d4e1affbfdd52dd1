use Rattle.std.proofs.Common.{ℕ, ◌<◌, get_or}
use mathlib.Core.List.{IsPrefix}
use Rattle.board.specs.Reporting.{Reporting}
use Rattle.board.proofs.steps.each_begins.Given as goal

abbrev pub invariant-loop-pass : goal.invariant-loop-pass
invariant-loop-pass g l = (k : ℕ) (other : Reporting) → k < l.pass-index → IsPrefix (get_or l.passes k other).seen l.whole
