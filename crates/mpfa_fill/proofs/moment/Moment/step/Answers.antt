use Rattle.std.proofs.Common.{◌≡◌, ℕ, suc, ◌+◌, ◌∙◌, ap, ap₂, Some, List, ◌∷◌, add-one}
use Rattle.bwe_specs.specs.declared.network.Closing.{Closing}
use Rattle.bwe_specs.specs.Filling.{Wan, State}
use Rattle.bwe_specs.specs.Values.{NeverFalls}
use Rattle.bwe_specs.specs.RightClosings.{over_at}
use Rattle.mpfa_fill.specs.Moment.{wan_in, state_of}
use Rattle.mpfa_fill.proofs.MomentLemmas.{never_falls, step-rises, step-right, step-closes, over-along, amounts-along, right-along}
use Rattle.mpfa_fill.proofs.moment.Moment.step.Goals as goal

pub close_link-requires-clause-right : goal.close_link-requires-clause-right
close_link-requires-clause-right g c =
    let wan : Wan = wan_in g.V.GroupValues.meaning c.args.self.now in
    let state : State = state_of c.args.self.now in
    let never : NeverFalls wan = never_falls _ _ _ c.requires.moment.growth.known in
    let tried = c.go_to.ensures in
    let back = c.go_to-in-Some.ensures in
    let next : c.go_to.new.self.share ≡ suc state.share = tried.share ∙ ap (λ s. s + 1) c.share-share.ensures ∙ add-one state.share in
    let over : Some c.in-Some.link ≡ over_at wan state.closings (suc state.share) = c.in-Some.ensures ∙ over-along _ _ _ _ _ _ tried.wan tried.closings next in
    right-along _ wan _ state.closings c.in-Some.link _ state.share (back.wan ∙ tried.wan) (back.closings ∙ tried.closings) (back.share ∙ c.share-share.ensures)
    (step-right wan never state c.requires.reached c.requires.below c.in-Some.link over)

pub returns-in_ok-close_link-clause-step : goal.returns-in_ok-close_link-clause-step
returns-in_ok-close_link-clause-step g c =
    let wan : Wan = wan_in g.V.GroupValues.meaning c.args.self.now in
    let state : State = state_of c.args.self.now in
    let never : NeverFalls wan = never_falls _ _ _ c.requires.moment.growth.known in
    let tried = c.go_to.ensures in
    let back = c.go_to-in-Some.ensures in
    let closed = c.in_ok-close_link.ensures in
    let next : c.go_to.new.self.share ≡ suc state.share = tried.share ∙ ap (λ s. s + 1) c.share-share.ensures ∙ add-one state.share in
    let over : Some c.in-Some.link ≡ over_at wan state.closings (suc state.share) = c.in-Some.ensures ∙ over-along _ _ _ _ _ _ tried.wan tried.closings next in
    let same : c.go_to-in-Some.new.self.share ≡ state.share = back.share ∙ c.share-share.ensures in
    step-closes wan never state c.requires.reached c.requires.below (state_of c.close_link.new.self) c.in-Some.link over
    (closed.share ∙ same)
    (closed.closings ∙ ap₂ (λ (s : ℕ) (cs : List Closing). record { link = c.in-Some.link; share = s } ∷ cs) same (back.closings ∙ tried.closings))
    (amounts-along _ wan _ _ _ (closed.wan ∙ back.wan ∙ tried.wan) closed.moment.amounts)

pub returns-in_default-clause-step : goal.returns-in_default-clause-step
returns-in_default-clause-step g c =
    let wan : Wan = wan_in g.V.GroupValues.meaning c.args.self.now in
    let state : State = state_of c.args.self.now in
    let never : NeverFalls wan = never_falls _ _ _ c.requires.moment.growth.known in
    let tried = c.go_to.ensures in
    let next : c.go_to.new.self.share ≡ suc state.share = tried.share ∙ ap (λ s. s + 1) c.share-share.ensures ∙ add-one state.share in
    step-rises wan never state c.requires.reached c.requires.below (state_of c.go_to.new.self) next tried.closings
    (amounts-along _ wan _ _ _ tried.wan tried.moment.amounts)
    (c.in_default.ensures ∙ ap (λ (w : Wan). over_at w (state_of c.go_to.new.self).closings (state_of c.go_to.new.self).share) tried.wan)
