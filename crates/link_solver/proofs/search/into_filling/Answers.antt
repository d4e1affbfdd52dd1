use Rattle.std.proofs.Common.{◌≡◌, ◌∙◌, sym, ap, ap₂, subst, reverse, List, None}
use Rattle.std.proofs.lemmas.Result.{IfOk-weaker}
use Rattle.bwe_specs.specs.declared.network.Closing.{Closing}
use Rattle.bwe_specs.specs.Filling.{Wan, filling}
use Rattle.bwe_specs.specs.RightClosings.{amounts_at, over_at}
use Rattle.bwe_specs.proofs.Certificates.{right-closings}
use Rattle.mpfa_fill.specs.declared.filling.Filling.{Filling}
use Rattle.mpfa_fill.specs.Growth.{closings_in as growth_closings}
use Rattle.link_front.specs.Front.{wan_in, closings_in}
use Rattle.mpfa_fill.proofs.MomentLemmas.{never_falls, right-all-along}
use Rattle.link_solver.proofs.search.into_filling.Goals as goal

pub into_filling-requires-clause-top : goal.into_filling-requires-clause-top
into_filling-requires-clause-top g c = c.requires.top ∙ ap (λ wan. wan.top) (sym c.bring_all_up.ensures.wan)

pub into_filling-requires-clause-up : goal.into_filling-requires-clause-up
into_filling-requires-clause-up g c =
    let e = c.bring_all_up.ensures in
    let closings : growth_closings c.bring_all_up.new.self ≡ closings_in c.args.front = ap reverse e.parts.closings in
    e.up ∙ ap₂ (λ (wan : Wan) (cs : List Closing). amounts_at wan cs c.args.top) (sym e.wan) (sym closings)

pub into_filling-requires-clause-fits : goal.into_filling-requires-clause-fits
into_filling-requires-clause-fits g c =
    let e = c.bring_all_up.ensures in
    let closings : growth_closings c.bring_all_up.new.self ≡ closings_in c.args.front = ap reverse e.parts.closings in
    ap₂ (λ (wan : Wan) (cs : List Closing). over_at wan cs c.args.top) e.wan closings ∙ c.requires.fits

pub into_filling-requires-clause-right : goal.into_filling-requires-clause-right
into_filling-requires-clause-right g c =
    let e = c.bring_all_up.ensures in
    right-all-along _ _ _ _ e.wan (ap reverse e.parts.closings) c.requires.right

pub returns-clause-closings : goal.returns-clause-closings
returns-clause-closings g c =
    let e = c.bring_all_up.ensures in
    let wan : Wan = wan_in g.V.GroupValues.meaning c.args.front in
    let closings : List Closing = closings_in c.args.front in
    let fits : over_at wan closings wan.top ≡ None = subst (λ share. over_at wan closings share ≡ None) c.requires.top c.requires.fits in
    let found = right-closings wan (never_falls _ _ _ c.requires.front.growth.known) closings (c.requires.right, fits) in
    IfOk-weaker c.into_filling.result _ _
    (λ (filled : Filling) is. is.closings ∙ ap (λ (w : Wan). reverse (filling w).closings) e.wan ∙ ap reverse (sym found.0)) c.into_filling.ensures
