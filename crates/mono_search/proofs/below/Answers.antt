use Rattle.std.proofs.Common.{◌≡◌, ◌+◌, ◌-◌, false, sym, ◌∙◌, ap, subst, arith}
use Rattle.mono_search.specs.Level.{Falls}
use Rattle.mono_search.proofs.Doublings.{double, few_doublings, fewer_doublings}
use Rattle.mono_search.proofs.Shares.{above_false}
use Rattle.mono_search.proofs.below.Goals as goal

pub loop-width-preserved : goal.loop-width-preserved
loop-width-preserved g c =
    let v = c.loop-width.invariant in
    let probe = c.loop-width.high + 1 - c.loop-width.width in
    let not_here : g.V.Level.meaning c.args.level.now probe ≡ false = ap (λ m. m probe) (sym v.same) ∙ sym c.fits.ensures.answer ∙ c.if-fits.false in
    let falls : Falls (g.V.Level.meaning c.args.level.now) = subst Falls v.same c.fits.ensures.falls in
    record {
      order = omega (arith, c.loop-width-test.true, v.order);
      start = omega (arith, v.start, c.loop-width-test.true, v.order);
      some = omega (arith, v.some);
      over = λ share higher within. above_false (g.V.Level.meaning c.args.level.now) falls probe share (omega (arith, higher, c.loop-width-test.true, v.some)) not_here;
      same = c.fits.ensures.same ∙ v.same;
      count = (v.count.0 + 1, omega (arith, c.fits.ensures.ticks, v.count.1), double v.count.0 c.loop-width.width v.count.2);
    }

pub returns-then-fits-clause-ticks : goal.returns-then-fits-clause-ticks
returns-then-fits-clause-ticks g c =
    let v = c.loop-width.invariant in
    let done = v.count.0 in
    let few = few_doublings (done + 1) (omega (arith, double done c.loop-width.width v.count.2, v.start, c.loop-width-test.true, v.order, c.requires.high)) in
    omega (arith, c.halved.ensures.ticks done (omega (arith, v.count.2, v.some, c.loop-width-test.true)), c.fits.ensures.ticks, v.count.1, few)

pub returns-then-fits-clause-near : goal.returns-then-fits-clause-near
returns-then-fits-clause-near g c =
    λ doublings within.
    let v = c.loop-width.invariant in
    let done = v.count.0 in
    let fewer = fewer_doublings done doublings (omega (arith, v.count.2, v.start, c.halved.ensures.answer.upto, within)) in
    omega (arith, c.halved.ensures.ticks done (omega (arith, v.count.2, v.some, c.loop-width-test.true)), c.fits.ensures.ticks, v.count.1, fewer)

pub returns-clause-ticks : goal.returns-clause-ticks
returns-clause-ticks g c =
    let v = c.loop-width.invariant in
    let done = v.count.0 in
    let few = few_doublings done (omega (arith, v.count.2, v.start, v.order, c.requires.high)) in
    omega (arith, c.halved-2.ensures.ticks done (omega (arith, v.count.2, c.loop-width-test.false, v.order)), v.count.1, few)

pub returns-clause-near : goal.returns-clause-near
returns-clause-near g c =
    λ doublings within.
    let v = c.loop-width.invariant in
    let done = v.count.0 in
    let fewer = fewer_doublings done doublings (omega (arith, v.count.2, v.start, c.halved-2.ensures.answer.upto, within)) in
    omega (arith, c.halved-2.ensures.ticks done (omega (arith, v.count.2, c.loop-width-test.false, v.order)), v.count.1, fewer)
