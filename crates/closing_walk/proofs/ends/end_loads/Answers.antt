use Rattle.std.proofs.Common.{◌≡◌, List, reverse, None, sym, ◌∙◌, ap, subst}
use Rattle.bwe_specs.specs.declared.network.Closing.{Closing}
use Rattle.bwe_specs.specs.Filling.{Wan}
use Rattle.bwe_specs.specs.RightClosings.{amounts_at, over_at, AreRightToTop}
use Rattle.link_front.specs.Front.{wan_in, closings_in}
use Rattle.closing_walk.proofs.Rights.{none-fits}
use Rattle.closing_walk.proofs.ends.end_loads.Goals as goal

pub returns-in-None-clause-wrong : goal.returns-in-None-clause-wrong
returns-in-None-clause-wrong g c = λ _ right.
    let wan : Wan = wan_in g.V.GroupValues.meaning c.closes_all.new.front in
    let closings : List Closing = closings_in c.closes_all.new.front in
    let made = c.in_ok-closes_all.ensures in
    let top : c.args.top ≡ wan.top = c.requires.top ∙ ap (λ (wan : Wan). wan.top) (sym made.wan) in
    let here : AreRightToTop wan closings =
    subst (AreRightToTop wan) (sym (made.closings c.if-not-branch.false)) (subst (λ wan. AreRightToTop wan (reverse c.args.closings.now)) (sym made.wan) right) in
    c.in_ok-loads.ensures.over c.in-None.is
    (λ link lt. none-fits wan (amounts_at wan closings c.args.top) link lt (subst (λ share. over_at wan closings share ≡ None) (sym top) here.1))
