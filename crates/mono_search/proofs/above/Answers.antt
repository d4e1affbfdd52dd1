use Rattle.std.proofs.Common.{◌+◌, sym, ◌∙◌, ap, arith}
use Rattle.mono_search.proofs.Doublings.{double, few_doublings, no_more_doublings}
use Rattle.mono_search.proofs.above.Goals as goal

pub loop-width-preserved : goal.loop-width-preserved
loop-width-preserved g c =
    let v = c.loop-width.invariant in
    record {
      order = omega (arith, c.loop-width-test.true, v.order);
      start = omega (arith, v.start);
      some = omega (arith, v.some);
      fits = ap (λ m. m (c.loop-width.low + c.loop-width.width)) (sym v.same) ∙ sym c.fits.ensures.answer ∙ c.if-not-fits.false;
      same = c.fits.ensures.same ∙ v.same;
      count = (v.count.0 + 1, omega (arith, c.fits.ensures.ticks, v.count.1), double v.count.0 c.loop-width.width v.count.2);
    }

pub returns-then-not-fits-clause-ticks : goal.returns-then-not-fits-clause-ticks
returns-then-not-fits-clause-ticks g c =
    let v = c.loop-width.invariant in
    let done = v.count.0 in
    let few = few_doublings (done + 1) (omega (arith, double done c.loop-width.width v.count.2, v.start, c.loop-width-test.true, v.order, c.requires.high, c.requires.some)) in
    omega (arith, c.halved.ensures.ticks done (omega (arith, v.count.2, v.some)), c.fits.ensures.ticks, v.count.1, few)

pub returns-then-not-fits-clause-near : goal.returns-then-not-fits-clause-near
returns-then-not-fits-clause-near g c =
    λ doublings within.
    let v = c.loop-width.invariant in
    let done = v.count.0 in
    let fewer = no_more_doublings done doublings (omega (arith, v.count.2, v.start, c.halved.ensures.answer.from, within)) in
    omega (arith, c.halved.ensures.ticks done (omega (arith, v.count.2, v.some)), c.fits.ensures.ticks, v.count.1, fewer)

pub returns-clause-ticks : goal.returns-clause-ticks
returns-clause-ticks g c =
    let v = c.loop-width.invariant in
    let done = v.count.0 in
    let few = few_doublings done (omega (arith, v.count.2, v.start, v.order, c.requires.high, c.requires.some)) in
    omega (arith, c.halved-2.ensures.ticks done (omega (arith, v.count.2, c.loop-width-test.false, v.order)), v.count.1, few)

pub returns-clause-near : goal.returns-clause-near
returns-clause-near g c =
    λ doublings within.
    let v = c.loop-width.invariant in
    let done = v.count.0 in
    let fewer = no_more_doublings done doublings (omega (arith, v.count.2, v.start, c.halved-2.ensures.answer.from, within)) in
    omega (arith, c.halved-2.ensures.ticks done (omega (arith, v.count.2, c.loop-width-test.false, v.order)), v.count.1, fewer)
