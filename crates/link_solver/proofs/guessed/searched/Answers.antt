use Rattle.std.proofs.Common.{arith, slice_index, lt-ltb, le-ltb}
use Rattle.link_solver.specs.Dues.{load_at}
use Rattle.link_front.specs.Front.{wan_in, closings_in}
use Rattle.link_solver.proofs.guessed.searched.Goals as goal

pub loop-high-preserved-then-load-capacity : goal.loop-high-preserved-then-load-capacity
loop-high-preserved-then-load-capacity g c =
    let i = c.loop-high.invariant in
    let wan = wan_in g.V.GroupValues.meaning c.args.front.now in
    let middle = c.between-middle.result in
    record {
      from = i.from;
      order = c.between-middle.ensures.above;
      upto = omega (arith, i.upto, c.between-middle.ensures.below);
      within = omega (arith, i.within, c.between-middle.ensures.below);
      fits = i.fits;
      over = λ _. lt-ltb (slice_index wan.capacities c.args.link) (load_at wan (closings_in c.args.front.now) middle c.args.link) (omega (arith, c.load_within-load.ensures.above c.if-load-capacity.true, c.capacity-capacity.ensures, c.if-load-capacity.true));
      low_load = i.low_load;
      over_load = λ _ _. omega (arith, c.load_within-load.ensures.above c.if-load-capacity.true);
    }

pub loop-high-preserved : goal.loop-high-preserved
loop-high-preserved g c =
    let i = c.loop-high.invariant in
    let wan = wan_in g.V.GroupValues.meaning c.args.front.now in
    let middle = c.between-middle.result in
    record {
      from = omega (arith, i.from, c.between-middle.ensures.above);
      order = c.between-middle.ensures.below;
      upto = i.upto;
      within = i.within;
      fits = λ _. le-ltb (slice_index wan.capacities c.args.link) (load_at wan (closings_in c.args.front.now) middle c.args.link) (omega (arith, c.load_within-load.ensures.within c.if-load-capacity.false, c.capacity-capacity.ensures, c.if-load-capacity.false));
      over = i.over;
      low_load = λ _. omega (arith, c.load_within-load.ensures.within c.if-load-capacity.false);
      over_load = i.over_load;
    }
