use Rattle.raw_document.specs.Reading.{Gives}
use Rattle.raw_document.proofs.Visits.{Continues}
use Rattle.doc_passes.proofs.numbered.each_numbers.Given as goal

abbrev pub invariant-loop-place : goal.invariant-loop-place
invariant-loop-place g l = Continues (λ v r. Gives g.T.Numbered.told r (g.T.Numbered.in_numbers l.table (g.T.Numbered.shown v))) l.place l.items l.found.items
