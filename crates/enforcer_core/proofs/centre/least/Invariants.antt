use Rattle.std.proofs.Common.{◌≡◌, take, min}
use Rattle.std.specs.List.{fold}
use Rattle.enforcer_core.proofs.centre.least.Given as goal

abbrev pub invariant-loop-number : goal.invariant-loop-number
invariant-loop-number l = l.least ≡ fold (λ least number. min least number) l.first (take l.number-index l.others)
