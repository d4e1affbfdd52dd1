use Rattle.std.proofs.Common.{◌≡◌, ◌+◌, sym, ◌∙◌, ap, subst, arith, reverse}
use Rattle.bwe_specs.specs.Filling.{Wan, State, filling, IsReached}
use Rattle.bwe_specs.specs.Values.{NeverFalls}
use Rattle.bwe_specs.proofs.Steps.{reached-first_state, reached-few}
use Rattle.mpfa_fill.specs.GroupValues.{wan_of}
use Rattle.mpfa_fill.specs.Moment.{state_of}
use Rattle.mpfa_fill.proofs.MomentLemmas.{never_falls, first-is, fits-reached, amounts-along}
use Rattle.mpfa_solver.specs.Search.{AreLinks}
use Rattle.mpfa_solver.specs.Stops.{searches}
use Rattle.mpfa_solver.proofs.NextStop.{reached-no_more, searches-below, searches-at_top}
use Rattle.mpfa_solver.proofs.jumps.solve.Goals as goal

pub loop-notes-init : goal.loop-notes-init
loop-notes-init g c =
    let wan : Wan = wan_of (g.V.GroupValues.meaning c.args.values.now) c.args.plan.now c.args.topology.now.capacities in
    let first = c.in_ok-moment.ensures in
    record {
      moment = first.moment;
      wan = first.wan;
      reached = subst (IsReached wan) (sym (first-is wan (state_of c.in_ok-moment.moment) first.share first.closings (amounts-along _ wan _ _ _ first.wan first.moment.amounts))) (reached-first_state wan);
      named = subst (AreLinks wan) (sym c.new.ensures.items) (λ k d lt. absurd (omega arith));
      ticks = omega arith;
      right_hints = λ right. omega arith;
    }

pub returns-in_err-moment-2-clause-ticks : goal.returns-in_err-moment-2-clause-ticks
returns-in_err-moment-2-clause-ticks g c =
    let wan : Wan = wan_of (g.V.GroupValues.meaning c.args.values.now) c.args.plan.now c.args.topology.now.capacities in
    let i = c.loop-notes.invariant in
    let never : NeverFalls wan = never_falls _ _ _ c.top-top.ensures.values in
    let state : State = state_of c.loop-notes.moment in
    omega (
      arith,
      c.in_err-moment-2.ensures.ticks,
      i.ticks,
      searches-below wan.top state (omega (arith, c.share.ensures, c.loop-notes-test.true, c.top-top.ensures.top)),
      reached-no_more wan never state i.reached,
    )

pub returns-in_err-moment-2-clause-right_hints : goal.returns-in_err-moment-2-clause-right_hints
returns-in_err-moment-2-clause-right_hints g c right =
    let wan : Wan = wan_of (g.V.GroupValues.meaning c.args.values.now) c.args.plan.now c.args.topology.now.capacities in
    let i = c.loop-notes.invariant in
    let never : NeverFalls wan = never_falls _ _ _ c.top-top.ensures.values in
    let state : State = state_of c.loop-notes.moment in
    omega (
      arith,
      c.in_err-moment-2.ensures.right_hints (right ∙ ap (λ w. reverse (filling w).closings) (sym i.wan)),
      i.right_hints right,
      searches-below wan.top state (omega (arith, c.share.ensures, c.loop-notes-test.true, c.top-top.ensures.top)),
      reached-no_more wan never state i.reached,
    )

pub loop-notes-smaller : goal.loop-notes-smaller
loop-notes-smaller g c =
    let wan : Wan = wan_of (g.V.GroupValues.meaning c.args.values.now) c.args.plan.now c.args.topology.now.capacities in
    let i = c.loop-notes.invariant in
    let never : NeverFalls wan = never_falls _ _ _ c.top-top.ensures.values in
    let state : State = state_of c.loop-notes.moment in
    let more : searches wan.top (state_of c.in_ok-moment-2.moment) ≡ searches wan.top state + 1 =
    subst (λ top. searches top (state_of c.in_ok-moment-2.moment) ≡ searches top state + 1) c.top-top.ensures.top c.in_ok-moment-2.ensures.search in
    omega (
      arith,
      more,
      searches-below wan.top state (omega (arith, c.share.ensures, c.loop-notes-test.true, c.top-top.ensures.top)),
      reached-few wan never state i.reached,
    )

pub loop-notes-preserved : goal.loop-notes-preserved
loop-notes-preserved g c =
    let wan : Wan = wan_of (g.V.GroupValues.meaning c.args.values.now) c.args.plan.now c.args.topology.now.capacities in
    let i = c.loop-notes.invariant in
    let next = c.in_ok-moment-2.ensures in
    let state : State = state_of c.loop-notes.moment in
    let more : searches wan.top (state_of c.in_ok-moment-2.moment) ≡ searches wan.top state + 1 =
    subst (λ top. searches top (state_of c.in_ok-moment-2.moment) ≡ searches top state + 1) c.top-top.ensures.top next.search in
    record {
      moment = next.moment;
      wan = next.wan ∙ i.wan;
      reached = subst (λ w. IsReached w (state_of c.in_ok-moment-2.moment)) i.wan next.reached;
      named = subst (λ w. AreLinks w c.advanced.new.notes.named.items) i.wan next.named;
      ticks = omega (arith, next.ticks, more, i.ticks);
      right_hints = λ right. omega (arith, next.right_hints (right ∙ ap (λ w. reverse (filling w).closings) (sym i.wan)), more, i.right_hints right);
    }

pub into_filling-requires-clause-fits : goal.into_filling-requires-clause-fits
into_filling-requires-clause-fits g c =
    let i = c.loop-notes.invariant in
    fits-reached _ (never_falls _ _ _ i.moment.growth.known) (state_of c.loop-notes.moment) (subst (λ w. IsReached w (state_of c.loop-notes.moment)) (sym i.wan) i.reached)

pub returns-clause-ticks : goal.returns-clause-ticks
returns-clause-ticks g c =
    let wan : Wan = wan_of (g.V.GroupValues.meaning c.args.values.now) c.args.plan.now c.args.topology.now.capacities in
    let i = c.loop-notes.invariant in
    let never : NeverFalls wan = never_falls _ _ _ c.top-top.ensures.values in
    let state : State = state_of c.loop-notes.moment in
    omega (
      arith,
      i.ticks,
      searches-at_top wan.top state (omega (arith, c.share.ensures, c.loop-notes-test.false, c.top-top.ensures.top)),
      reached-no_more wan never state i.reached,
    )

pub returns-clause-right_hints : goal.returns-clause-right_hints
returns-clause-right_hints g c right =
    let wan : Wan = wan_of (g.V.GroupValues.meaning c.args.values.now) c.args.plan.now c.args.topology.now.capacities in
    let i = c.loop-notes.invariant in
    let never : NeverFalls wan = never_falls _ _ _ c.top-top.ensures.values in
    let state : State = state_of c.loop-notes.moment in
    omega (
      arith,
      i.right_hints right,
      searches-at_top wan.top state (omega (arith, c.share.ensures, c.loop-notes-test.false, c.top-top.ensures.top)),
      reached-no_more wan never state i.reached,
    )
