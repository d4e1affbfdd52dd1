use Rattle.std.proofs.Common.{arith}
use Rattle.bw_function.proofs.Rise.{neighbours, amount-few, slopes-more, pairs-rise}
use Rattle.bw_function.proofs.steepest.steepest_of.Goals as goal

pub slope-requires-clause-run : goal.slope-requires-clause-run
slope-requires-clause-run c = (neighbours c.args.points.now c.requires.0 c.loop-at.at c.requires.1 (omega arith) (omega arith)).0

pub slope-requires-clause-rise : goal.slope-requires-clause-rise
slope-requires-clause-rise c = (neighbours c.args.points.now c.requires.0 c.loop-at.at c.requires.1 (omega arith) (omega arith)).1

pub loop-at-preserved : goal.loop-at-preserved
loop-at-preserved c = record {
  bound = omega (arith, c.max-steepest.ensures, c.slope.ensures.bound, c.loop-at.invariant.bound, amount-few c.args.points.now c.requires.0 c.loop-at.at c.requires.1 (omega arith));
  slopes = slopes-more c.args.points.now c.loop-at.at c.loop-at.steepest c.slope.result c.max-steepest.result (omega arith) (omega arith) (omega arith) c.slope.ensures.enough c.loop-at.invariant.slopes;
}

pub returns-clause-rise : goal.returns-clause-rise
returns-clause-rise c =
    pairs-rise c.args.points.now c.requires.0 c.loop-at.steepest (0, 0) c.requires.1
    (λ k lt. c.loop-at.invariant.slopes k (omega arith))
