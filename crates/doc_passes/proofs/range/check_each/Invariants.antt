use Rattle.std.proofs.Common.{List}
use Rattle.raw_document.specs.Reading.{Gives}
use Rattle.raw_document.proofs.Visits.{Continues}
use Rattle.doc_passes.proofs.range.check_each.Given as goal

abbrev pub invariant-loop-place : goal.invariant-loop-place
invariant-loop-place g l = (found : List (Unit {0})) × Continues (λ v r. Gives (λ nothing. nothing) r (g.T.InRange.range (g.T.InRange.shown v))) l.place l.items found
