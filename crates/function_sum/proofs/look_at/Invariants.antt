use Rattle.std.proofs.Common.{◌≡◌, take, sum_by}
use Rattle.function_sum.proofs.look_at.Given as goal

abbrev pub invariant-loop-part : goal.invariant-loop-part
invariant-loop-part g l = l.value ≡ sum_by (λ part. g.P.ShareFunction.meaning part l.share) (take l.part-index l.parts)
