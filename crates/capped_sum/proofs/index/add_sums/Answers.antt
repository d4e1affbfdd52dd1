use Rattle.std.proofs.Common.{arith}
use Rattle.capped_sum.proofs.Most.{sums-more}
use Rattle.capped_sum.proofs.index.add_sums.Goals as goal

pub loop-place-preserved : goal.loop-place-preserved
loop-place-preserved c =
    sums-more c.args.tasks.now c.args.ranked.now c.loop-place.when_full c.loop-place.place c.indexed_sum.result.sum _
    (omega (arith, c.loop-place-test.true, c.loop-place.auto.when_full, c.requires.size)) c.loop-place-test.true c.indexed_sum.ensures c.loop-place.invariant

pub returns : goal.returns
returns c = record {
  size = omega (arith, c.loop-place.auto.when_full, c.requires.size);
  sums = λ place d e lt. c.loop-place.invariant place d e (omega (arith, lt, c.loop-place-test.false));
}
