use Rattle.std.proofs.Common.{◌≡◌, suc, ◌+◌, ◌<◌, sym, ◌∙◌, ap, subst, arith, length}
use Rattle.bwe_specs.specs.Filling.{Wan, State, IsReached, filling_step}
use Rattle.bwe_specs.specs.Values.{NeverFalls}
use Rattle.bwe_specs.proofs.Steps.{reached-first_state, reached-step, reached-few, step-longer}
use Rattle.mpfa_fill.specs.GroupValues.{wan_of}
use Rattle.mpfa_fill.specs.Moment.{state_of}
use Rattle.mpfa_fill.proofs.MomentLemmas.{never_falls, first-is, fits-reached, amounts-along}
use Rattle.step_filling.proofs.fill_by_steps.Goals as goal

pub loop-moment-init : goal.loop-moment-init
loop-moment-init g c =
    let wan : Wan = wan_of (g.V.GroupValues.meaning c.args.values.now) c.args.plan.now c.args.topology.now.capacities in
    let first = c.in_ok-moment.ensures in
    record {
      moment = first.moment;
      wan = first.wan;
      reached = subst (IsReached wan) (sym (first-is wan (state_of c.in_ok-moment.moment) first.share first.closings (amounts-along _ wan _ _ _ first.wan first.moment.amounts))) (reached-first_state wan);
    }

pub loop-moment-smaller : goal.loop-moment-smaller
loop-moment-smaller g c =
    let wan : Wan = wan_of (g.V.GroupValues.meaning c.args.values.now) c.args.plan.now c.args.topology.now.capacities in
    let i = c.loop-moment.invariant in
    let never : NeverFalls wan = never_falls _ _ _ c.top-top.ensures.values in
    let before : State = state_of c.loop-moment.moment in
    let after : State = state_of c.step.new.self in
    let below : before.share < wan.top = omega (arith, c.share.ensures, c.loop-moment-test.true, c.top-top.ensures.top) in
    let stepped : after ≡ filling_step wan before = c.in_ok-step.ensures.step ∙ ap (λ w. filling_step w before) i.wan in
    let longer : after.share + length after.closings ≡ suc (before.share + length before.closings) =
    ap (λ (state : State). state.share + length state.closings) stepped ∙ step-longer wan never before i.reached below in
    omega (arith, longer, below, reached-few wan never before i.reached)

pub loop-moment-preserved : goal.loop-moment-preserved
loop-moment-preserved g c =
    let wan : Wan = wan_of (g.V.GroupValues.meaning c.args.values.now) c.args.plan.now c.args.topology.now.capacities in
    let i = c.loop-moment.invariant in
    let stepped = c.in_ok-step.ensures in
    record {
      moment = stepped.moment;
      wan = stepped.wan ∙ i.wan;
      reached = subst (IsReached wan) (sym (stepped.step ∙ ap (λ w. filling_step w (state_of c.loop-moment.moment)) i.wan)) (reached-step wan (state_of c.loop-moment.moment) i.reached);
    }

pub into_filling-requires-clause-fits : goal.into_filling-requires-clause-fits
into_filling-requires-clause-fits g c =
    let i = c.loop-moment.invariant in
    fits-reached _ (never_falls _ _ _ i.moment.growth.known) (state_of c.loop-moment.moment) (subst (λ w. IsReached w (state_of c.loop-moment.moment)) (sym i.wan) i.reached)
