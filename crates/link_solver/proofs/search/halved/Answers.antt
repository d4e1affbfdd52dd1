use Rattle.std.proofs.Common.{◌+◌, ◌-◌, ◌/◌, ◌≤◌, arith, slice_index, lt-ltb, le-ltb}
use Rattle.link_solver.specs.Dues.{load_at}
use Rattle.link_front.specs.Front.{wan_in, closings_in}
use Rattle.link_solver.proofs.Looks.{one-less}
use Rattle.link_solver.proofs.search.halved.Goals as goal

pub returns-clause-ticks : goal.returns-clause-ticks
returns-clause-ticks g c =
    let found = c.in-Some.ensures.found in
    let width : c.args.due.over - c.args.due.share ≤ 1_000_000_000 = omega (arith, c.requires.within, c.requires.front.growth.known.top_small) in
    omega (
      arith,
      c.in-Some.ensures.look,
      one-less (c.args.due.over - c.args.due.share) (c.in-Some.found.over - c.in-Some.found.share) width (omega (arith, c.if-due-gt1.true)) (omega (arith, found.next, c.if-due-gt1.true)),
    )

pub loop-high-preserved-then-load-capacity : goal.loop-high-preserved-then-load-capacity
loop-high-preserved-then-load-capacity g c =
    let i = c.loop-high.invariant in
    let low = c.loop-high.low in
    let high = c.loop-high.high in
    let wan = wan_in g.V.GroupValues.meaning c.args.front.now in
    let width : high - low ≤ 1_000_000_000 = omega (arith, i.upto, c.requires.within, c.requires.front.growth.known.top_small) in
    record {
      from = i.from;
      order = omega (arith, c.loop-high-test.true);
      upto = omega (arith, c.loop-high-test.true, i.upto);
      fits = i.fits;
      over = lt-ltb (slice_index wan.capacities c.args.link) (load_at wan (closings_in c.args.front.now) (low + (high - low) / 2) c.args.link) (omega (arith, c.load_within-load.ensures.above c.if-load-capacity.true, c.capacity-capacity.ensures, c.if-load-capacity.true));
      low_load = i.low_load;
      over_load = λ _. omega (arith, c.load_within-load.ensures.above c.if-load-capacity.true);
      more = omega (arith, i.more, c.load_within-load.ensures.ticks);
      some = λ _. omega (arith, i.more, c.load_within-load.ensures.ticks);
      ticks = omega (
        arith,
        i.ticks,
        c.load_within-load.ensures.ticks,
        one-less (high - low) (low + (high - low) / 2 - low) width (omega (arith, c.loop-high-test.true)) (omega (arith, c.loop-high-test.true)),
      );
    }

pub loop-high-preserved : goal.loop-high-preserved
loop-high-preserved g c =
    let i = c.loop-high.invariant in
    let low = c.loop-high.low in
    let high = c.loop-high.high in
    let wan = wan_in g.V.GroupValues.meaning c.args.front.now in
    let width : high - low ≤ 1_000_000_000 = omega (arith, i.upto, c.requires.within, c.requires.front.growth.known.top_small) in
    record {
      from = omega (arith, i.from);
      order = omega (arith, c.loop-high-test.true);
      upto = i.upto;
      fits = λ above. le-ltb (slice_index wan.capacities c.args.link) (load_at wan (closings_in c.args.front.now) (low + (high - low) / 2) c.args.link) (omega (arith, c.load_within-load.ensures.within c.if-load-capacity.false, c.capacity-capacity.ensures, c.if-load-capacity.false));
      over = i.over;
      low_load = λ _. omega (arith, c.load_within-load.ensures.within c.if-load-capacity.false);
      over_load = i.over_load;
      more = omega (arith, i.more, c.load_within-load.ensures.ticks);
      some = λ _. omega (arith, i.more, c.load_within-load.ensures.ticks);
      ticks = omega (
        arith,
        i.ticks,
        c.load_within-load.ensures.ticks,
        one-less (high - low) (high - (low + (high - low) / 2)) width (omega (arith, c.loop-high-test.true)) (omega (arith, c.loop-high-test.true)),
      );
    }
