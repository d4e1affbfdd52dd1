use Rattle.serde_json.specs.View.{view}
use Rattle.raw_document.specs.Reading.{Gives}
use Rattle.raw_document.proofs.Visits.{Continues}
use Rattle.raw_shape.proofs.shape.part.each_of.Given as goal

abbrev pub invariant-loop-place : goal.invariant-loop-place
invariant-loop-place g l = Continues (λ v r. Gives g.T.Part.shown r (g.T.Part.shape l.version (view v))) l.place l.items l.found.items
