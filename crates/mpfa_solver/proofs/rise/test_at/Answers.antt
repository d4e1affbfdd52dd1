use Rattle.std.proofs.Common.{◌≡◌, ◌<◌, Some, false, is_none, ap, sym, ◌∙◌, subst, arith, length}
use Rattle.std.proofs.lemmas.List.Elements.{All-push}
use Rattle.bwe_specs.specs.RightClosings.{over_at}
use Rattle.bwe_specs.specs.Values.{NeverFalls}
use Rattle.mpfa_fill.proofs.MomentLemmas.{never_falls, over-along}
use Rattle.mpfa_solver.specs.Search.{AreLinks, fits_from}
use Rattle.mpfa_solver.proofs.Levels.{fits-between, fits-falls}
use Rattle.mpfa_solver.proofs.Limits.{bound-failed, over-link}
use Rattle.mpfa_solver.proofs.rise.test_at.Goals as goal

pub bound_by-requires-clause-link : goal.bound_by-requires-clause-link
bound_by-requires-clause-link g c =
    let r = c.requires.rise in
    let gone = c.go_to.ensures in
    let over : over_at g.S.Search.wan g.S.Search.closings c.args.share ≡ Some c.in-Some.link =
    sym (over-along _ _ _ _ _ _ (gone.wan ∙ r.same_wan) (gone.closings ∙ r.same_closings) gone.share) ∙ sym c.first_over.ensures ∙ c.in-Some.is in
    over-link g.S.Search.wan g.S.Search.closings c.args.share c.in-Some.link over

pub bound_by-requires-clause-high : goal.bound_by-requires-clause-high
bound_by-requires-clause-high g c =
    let r = c.requires.rise in
    let gone = c.go_to.ensures in
    let never : NeverFalls g.S.Search.wan = subst NeverFalls r.same_wan (never_falls _ _ _ r.is_moment.growth.known) in
    let over : over_at g.S.Search.wan g.S.Search.closings c.args.share ≡ Some c.in-Some.link =
    sym (over-along _ _ _ _ _ _ (gone.wan ∙ r.same_wan) (gone.closings ∙ r.same_closings) gone.share) ∙ sym c.first_over.ensures ∙ c.in-Some.is in
    let above : g.S.Search.low < c.args.share = omega (arith, c.requires.above, r.same_low) in
    let within = c.requires.within in
    let misfit : fits_from g.S.Search.wan g.S.Search.closings g.S.Search.low c.args.share ≡ false =
    fits-between g.S.Search.wan g.S.Search.closings g.S.Search.low c.args.share above (omega (arith, within, r.same_top)) ∙ ap is_none over in
    bound-failed (fits_from g.S.Search.wan g.S.Search.closings g.S.Search.low) g.S.Search.low g.S.Search.wan.top (fits-falls g.S.Search.wan g.S.Search.closings g.S.Search.low never r.last)
    c.args.share above (omega (arith, within, r.same_top)) misfit

pub returns-clause-named : goal.returns-clause-named
returns-clause-named g c =
    let r = c.requires.rise in
    let gone = c.go_to.ensures in
    let over : over_at g.S.Search.wan g.S.Search.closings c.args.share ≡ Some c.in-Some.link =
    sym (over-along _ _ _ _ _ _ (gone.wan ∙ r.same_wan) (gone.closings ∙ r.same_closings) gone.share) ∙ sym c.first_over.ensures ∙ c.in-Some.is in
    subst (AreLinks g.S.Search.wan) (sym c.in_ok-push.ensures.items)
    (All-push (λ link. link < length g.S.Search.wan.capacities) c.args.notes.now.named.items c.in-Some.link c.requires.named
    (over-link g.S.Search.wan g.S.Search.closings c.args.share c.in-Some.link over))
