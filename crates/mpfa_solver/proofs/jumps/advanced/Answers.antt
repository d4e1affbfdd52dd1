use Rattle.std.proofs.Common.{◌≡◌, suc, ◌<◌, sym, ◌∙◌, ap, subst, arith, length, List}
use Rattle.bwe_specs.specs.declared.network.Closing.{Closing}
use Rattle.bwe_specs.specs.Filling.{Wan, State, filling_step, IsReached}
use Rattle.bwe_specs.specs.RightClosings.{over_at}
use Rattle.bwe_specs.specs.Values.{NeverFalls}
use Rattle.bwe_specs.proofs.Steps.{reached-step}
use Rattle.mpfa_fill.specs.declared.moment.Moment.{Moment}
use Rattle.mpfa_fill.specs.Moment.{wan_in, state_of}
use Rattle.mpfa_fill.proofs.MomentLemmas.{never_falls}
use Rattle.mpfa_solver.proofs.Levels.{over-next}
use Rattle.mpfa_solver.proofs.Limits.{hint-read}
use Rattle.mpfa_solver.proofs.NextStop.{risen-reached, step-adds, searches-below, searches-at_top}
use Rattle.mpfa_solver.proofs.jumps.advanced.Goals as goal
use Rattle.mpfa_solver.proofs.jumps.advanced.Goals.{then-share-top+in_ok-step, else-share-top}

pub step-requires-clause-reached : goal.step-requires-clause-reached
step-requires-clause-reached g c =
    let wan : Wan = wan_in g.V.GroupValues.meaning c.args.moment in
    let never : NeverFalls wan = never_falls _ _ _ c.requires.moment.growth.known in
    let e = c.in_ok-moment.ensures in
    subst (λ w. IsReached w (state_of c.in_ok-moment.moment)) (sym e.wan)
    (risen-reached wan _ never (state_of c.args.moment) (state_of c.in_ok-moment.moment) e.wan c.requires.reached e.closings e.answer e.moment.amounts)

pub returns-clause-reached : goal.returns-clause-reached
returns-clause-reached g c =
    let wan : Wan = wan_in g.V.GroupValues.meaning c.args.moment in
    let never : NeverFalls wan = never_falls _ _ _ c.requires.moment.growth.known in
    let e = c.in_ok-moment.ensures in
    let next : State = state_of c.in_ok-moment.moment in
    let reached : IsReached wan next = risen-reached wan _ never (state_of c.args.moment) next e.wan c.requires.reached e.closings e.answer e.moment.amounts in
    elim c.if-share-top.branch [
      | then-share-top+in_ok-step w ↦
          let is : state_of c.if-share-top.moment ≡ filling_step wan next =
          ap (λ (m : Moment g.row.V.Denot). state_of m) w.moment-is ∙ w.in_ok-step.ensures.step ∙ ap (λ v. filling_step v next) e.wan in
          subst (IsReached wan) (sym is) (reached-step wan next reached)
      | else-share-top w ↦ subst (IsReached wan) (sym (ap (λ (m : Moment g.row.V.Denot). state_of m) w.moment-is)) reached
    ]

pub returns-clause-search : goal.returns-clause-search
returns-clause-search g c =
    let wan : Wan = wan_in g.V.GroupValues.meaning c.args.moment in
    let never : NeverFalls wan = never_falls _ _ _ c.requires.moment.growth.known in
    let e = c.in_ok-moment.ensures in
    let state : State = state_of c.args.moment in
    let next : State = state_of c.in_ok-moment.moment in
    let reached : IsReached wan next = risen-reached wan _ never state next e.wan c.requires.reached e.closings e.answer e.moment.amounts in
    let before = searches-below c.args.top state c.requires.below in
    elim c.if-share-top.branch [
      | then-share-top+in_ok-step w ↦
          let is : state_of c.if-share-top.moment ≡ filling_step wan next =
          ap (λ (m : Moment g.row.V.Denot). state_of m) w.moment-is ∙ w.in_ok-step.ensures.step ∙ ap (λ v. filling_step v next) e.wan in
          let below : next.share < wan.top = omega (arith, c.share-2.ensures, w.if-share-top.true, c.requires.top) in
          let over = over-next wan state.closings state.share next.share e.answer below in
          let adds = step-adds wan never next over.0 reached below (ap (λ cs. over_at wan cs (suc next.share)) e.closings ∙ over.1) in
          let final : State = state_of c.if-share-top.moment in
          let longer : length final.closings ≡ suc (length state.closings) =
          ap (λ (s : State). length s.closings) is ∙ ap length adds.0 ∙ ap (λ (cs : List Closing). suc (length cs)) e.closings in
          let same : final.share ≡ next.share = ap (λ (s : State). s.share) is ∙ adds.1 in
          omega (arith, before, longer, searches-below c.args.top final (omega (arith, same, below, c.requires.top)))
      | else-share-top w ↦
          let is : state_of c.if-share-top.moment ≡ next = ap (λ (m : Moment g.row.V.Denot). state_of m) w.moment-is in
          let final : State = state_of c.if-share-top.moment in
          let same : length final.closings ≡ length state.closings = ap (λ (s : State). length s.closings) is ∙ ap length e.closings in
          omega (arith, before, same, searches-at_top c.args.top final (omega (arith, ap (λ (s : State). s.share) is, c.share-2.ensures, w.if-share-top.false)))
    ]

pub returns-in_err-moment-clause-right_hints : goal.returns-in_err-moment-clause-right_hints
returns-in_err-moment-clause-right_hints g c right =
    let wan : Wan = wan_in g.V.GroupValues.meaning c.args.moment in
    let never : NeverFalls wan = never_falls _ _ _ c.requires.moment.growth.known in
    c.in_err-moment.ensures.right_hint
    (hint-read wan never (state_of c.args.moment) c.args.hints.now c.closings.result.now c.share.result c.args.top c.hint_at-hint.result c.requires.reached c.closings.ensures c.share.ensures c.requires.top c.hint_at-hint.ensures right)

pub returns-in_err-step-clause-right_hints : goal.returns-in_err-step-clause-right_hints
returns-in_err-step-clause-right_hints g c right =
    let wan : Wan = wan_in g.V.GroupValues.meaning c.args.moment in
    let never : NeverFalls wan = never_falls _ _ _ c.requires.moment.growth.known in
    c.in_ok-moment.ensures.right_hint
    (hint-read wan never (state_of c.args.moment) c.args.hints.now c.closings.result.now c.share.result c.args.top c.hint_at-hint.result c.requires.reached c.closings.ensures c.share.ensures c.requires.top c.hint_at-hint.ensures right)

pub returns-clause-right_hints : goal.returns-clause-right_hints
returns-clause-right_hints g c right =
    let wan : Wan = wan_in g.V.GroupValues.meaning c.args.moment in
    let never : NeverFalls wan = never_falls _ _ _ c.requires.moment.growth.known in
    c.in_ok-moment.ensures.right_hint
    (hint-read wan never (state_of c.args.moment) c.args.hints.now c.closings.result.now c.share.result c.args.top c.hint_at-hint.result c.requires.reached c.closings.ensures c.share.ensures c.requires.top c.hint_at-hint.ensures right)
