use Rattle.std.proofs.Common.{◌≡◌, suc, true, false, List, sym, ◌∙◌, subst, add-one}
use Rattle.bwe_specs.specs.declared.network.Closing.{Closing}
use Rattle.bwe_specs.specs.Filling.{Wan}
use Rattle.bwe_specs.specs.RightClosings.{amounts_at}
use Rattle.mpfa_fill.specs.LastFit.{is_over_at}
use Rattle.mpfa_fill.proofs.MomentLemmas.{never_falls}
use Rattle.link_front.specs.Front.{wan_in, closings_in}
use Rattle.closing_walk.specs.Walk.{closing_at, Settles}
use Rattle.closing_walk.proofs.Kept.{walked-next, is-next}
use Rattle.closing_walk.proofs.Rights.{lowest-is_over}
use Rattle.closing_walk.proofs.walk.passes.Goals as goal

pub returns-clause-walked : goal.returns-clause-walked
returns-clause-walked g c = λ _.
    let wan : Wan = wan_in g.V.GroupValues.meaning c.args.front.now in
    let earlier : List Closing = closings_in c.args.front.now in
    let list : List Closing = c.args.closings.now in
    let closing : Closing = closing_at list c.args.at in
    let order = c.is_in_order.ensures in
    let passed = c.if-not-is_in_order.false in
    let settles : Settles wan earlier list c.args.at c.args.froms.now c.settles_all.new.froms = c.in_ok-settles_all.ensures.settles c.if-not-branch-2.false in
    walked-next wan (never_falls _ _ _ c.requires.front.growth.known) earlier list c.args.at
    (is-next wan earlier list c.args.at c.args.froms.now c.requires.walked c.requires.at (order.keeps passed) (order.below passed))
    c.args.froms.now c.settles_all.new.froms c.requires.walked
    (record {
      link_exists = order.link passed;
      not_closed = order.open passed;
      share_keeps = order.keeps passed;
      below_top = order.below passed;
      over_at_next = subst (λ share. is_over_at wan earlier share closing.link ≡ true) (add-one closing.share) (sym c.in_ok-looks_over.ensures.over ∙ c.if-not-branch.false);
    })
    settles.owing (c.in_ok-settles_all.ensures.off c.if-not-branch-2.false)

pub returns-then-not-branch-clause-wrong : goal.returns-then-not-branch-clause-wrong
returns-then-not-branch-clause-wrong g c = λ _ right.
    let wan : Wan = wan_in g.V.GroupValues.meaning c.args.front.now in
    let earlier : List Closing = closings_in c.args.front.now in
    let closing : Closing = closing_at c.args.closings.now c.args.at in
    let over : is_over_at wan earlier (suc closing.share) closing.link ≡ true = lowest-is_over wan (amounts_at wan earlier (suc closing.share)) closing.link right.1.over_at_next in
    let fits : is_over_at wan earlier (suc closing.share) closing.link ≡ false =
    subst (λ share. is_over_at wan earlier share closing.link ≡ false) (add-one closing.share) (sym c.in_ok-looks_over.ensures.over ∙ c.if-not-branch.true) in
    absurd (cc)
