use Rattle.std.proofs.Common.{◌≡◌, length, map, take}
use Rattle.crew.proofs.driving.sent_of.Given as goal

abbrev pub invariant-loop-pass : goal.invariant-loop-pass
invariant-loop-pass g l = l.sent.items ≡ map (λ pass. length pass.own) (take l.pass-index l.passes)
