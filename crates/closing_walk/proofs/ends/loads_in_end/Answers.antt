use Rattle.std.proofs.Common.{◌≡◌, ℕ, ◌+◌, ◌<◌, true, false, List, length, sym, arith, le-ltb, lt-ltb, subst, slice_index}
use Rattle.bwe_specs.specs.declared.network.Closing.{Closing}
use Rattle.bwe_specs.specs.Filling.{Wan}
use Rattle.bwe_specs.specs.Paths.{link_load}
use Rattle.bwe_specs.specs.RightClosings.{amounts_at}
use Rattle.mpfa_fill.specs.LastFit.{is_over_at}
use Rattle.mpfa_fill.proofs.Order.{order-le}
use Rattle.link_front.specs.Front.{wan_in, closings_in}
use Rattle.closing_walk.specs.Ends.{AreLoads}
use Rattle.closing_walk.proofs.EndLoads.{loads-next}
use Rattle.closing_walk.proofs.ends.loads_in_end.Goals as goal

pub loop-link-init : goal.loop-link-init
loop-link-init g c = record {
  known = c.requires.known;
  loads = record {
    each_link = search arith;
    loads = λ link lt. absurd (omega (arith, lt));
    fit = λ link lt. absurd (omega (arith, lt));
  };
  ticks = omega arith;
}

pub load_at-requires-clause-last : goal.load_at-requires-clause-last
load_at-requires-clause-last g c =
    omega (arith, order-le (wan_in g.V.GroupValues.meaning c.args.front.now) (closings_in c.args.front.now) c.requires.front.growth.order, c.requires.top)

pub returns-then-load-capacity-clause-over : goal.returns-then-load-capacity-clause-over
returns-then-load-capacity-clause-over g c = λ _ fit.
    let wan : Wan = wan_in g.V.GroupValues.meaning c.args.front.now in
    let closings : List Closing = closings_in c.args.front.now in
    let link : ℕ = c.loop-link.link in
    let inside : link < length wan.capacities = omega (arith, c.loop-link-test.true, c.links-link-end.ensures) in
    let fits : is_over_at wan closings c.args.top link ≡ false = fit link inside in
    let over : is_over_at wan closings c.args.top link ≡ true = lt-ltb (slice_index wan.capacities link) (link_load wan.groups (amounts_at wan closings c.args.top) link)
    (omega (arith, c.if-load-capacity.true, c.in_ok-load.ensures.load, c.capacity.ensures)) in
    absurd (cc)

pub loop-link-preserved : goal.loop-link-preserved
loop-link-preserved g c =
    let wan : Wan = wan_in g.V.GroupValues.meaning c.args.front.now in
    let closings : List Closing = closings_in c.args.front.now in
    let link : ℕ = c.loop-link.link in
    let i = c.loop-link.invariant in
    let fits : is_over_at wan closings c.args.top link ≡ false = le-ltb (slice_index wan.capacities link) (link_load wan.groups (amounts_at wan closings c.args.top) link)
    (omega (arith, c.if-load-capacity.false, c.in_ok-load.ensures.load, c.capacity.ensures)) in
    record {
      known = c.in_ok-load.ensures.known;
      loads = subst (AreLoads wan closings c.args.top (link + 1)) (sym c.in_ok-push.ensures.items)
          (loads-next wan closings c.args.top link c.loop-link.loads.items c.in_ok-load.load i.loads c.in_ok-load.ensures.load fits);
      ticks = omega (arith, i.ticks, c.in_ok-load.ensures.ticks);
    }
