use Rattle.std.proofs.Common.{◌≡◌, drop, map}
use Rattle.raw_document.specs.Reading.{fold_each}
use Rattle.threaded_passes.proofs.walk.walk_from.Given as goal

abbrev pub invariant-loop-place : goal.invariant-loop-place
invariant-loop-place g l = fold_each (g.T.Walked.after l.given) l.place (g.T.Walked.state l.first l.second) (map g.T.Walked.shown (drop l.place l.items)) ≡ fold_each (g.T.Walked.after l.given) l.from (g.T.Walked.state l.fn.first l.fn.second) (map g.T.Walked.shown (drop l.from l.items))
