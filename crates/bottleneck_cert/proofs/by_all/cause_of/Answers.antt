use Rattle.std.proofs.Common.{◌≡◌, ℕ, suc, Bool, ◌∙◌, sym, ap₂, arith, List, reverse, Option, le-leb, le-ltb, lt-ltb, add-one}
use Rattle.std.proofs.lemmas.Bool.{lt-leb}
use Rattle.bwe_specs.specs.declared.network.Closing.{Closing}
use Rattle.bwe_specs.specs.Filling.{Wan}
use Rattle.bwe_specs.specs.RightClosings.{next_cause}
use Rattle.mpfa_fill.specs.Moment.{wan_in}
use Rattle.mpfa_fill.proofs.MomentLemmas.{over-along}
use Rattle.bottleneck_cert.proofs.Causes.{closed-found, named-along, cause-no_link, cause-reclosed, cause-falls, cause-at_top, cause-over_before, cause-next}
use Rattle.bottleneck_cert.proofs.by_all.cause_of.Goals as goal

pub returns-then-closing-links-clause-cause : goal.returns-then-closing-links-clause-cause
returns-then-closing-links-clause-cause g c =
    cause-no_link (wan_in g.V.GroupValues.meaning c.args.moment.now) (reverse c.args.moment.now.growth.closings) c.args.closing
    (le-leb _ _ (omega (arith, c.if-closing-links.true, c.requires.links)))

pub returns-then-is_closed-clause-cause : goal.returns-then-is_closed-clause-cause
returns-then-is_closed-clause-cause g c =
    let earlier : List Closing = reverse c.args.moment.now.growth.closings in
    cause-reclosed (wan_in g.V.GroupValues.meaning c.args.moment.now) earlier c.args.closing
    (lt-leb _ _ (omega (arith, c.if-closing-links.false, c.requires.links)))
    (closed-found c.closings.result.now earlier c.args.closing.link c.is_closed.result c.closings.ensures c.is_closed.ensures ∙ c.if-is_closed.true)

pub returns-then-closing-share-clause-cause : goal.returns-then-closing-share-clause-cause
returns-then-closing-share-clause-cause g c =
    let earlier : List Closing = reverse c.args.moment.now.growth.closings in
    cause-falls (wan_in g.V.GroupValues.meaning c.args.moment.now) earlier c.args.closing
    (lt-leb _ _ (omega (arith, c.if-closing-links.false, c.requires.links)))
    (closed-found c.closings.result.now earlier c.args.closing.link c.is_closed.result c.closings.ensures c.is_closed.ensures ∙ c.if-is_closed.false)
    (lt-ltb _ _ (omega (arith, c.if-closing-share.true, c.share.ensures, c.requires.last)))

pub returns-then-closing-top-clause-cause : goal.returns-then-closing-top-clause-cause
returns-then-closing-top-clause-cause g c =
    let earlier : List Closing = reverse c.args.moment.now.growth.closings in
    cause-at_top (wan_in g.V.GroupValues.meaning c.args.moment.now) earlier c.args.closing
    (lt-leb _ _ (omega (arith, c.if-closing-links.false, c.requires.links)))
    (closed-found c.closings.result.now earlier c.args.closing.link c.is_closed.result c.closings.ensures c.is_closed.ensures ∙ c.if-is_closed.false)
    (le-ltb _ _ (omega (arith, c.if-closing-share.false, c.share.ensures, c.requires.last)))
    (le-leb _ _ (omega (arith, c.if-closing-top.true, c.requires.top)))

pub returns-in-Some-clause-cause : goal.returns-in-Some-clause-cause
returns-in-Some-clause-cause g c =
    let wan : Wan = wan_in g.V.GroupValues.meaning c.args.moment.now in
    let earlier : List Closing = reverse c.args.moment.now.growth.closings in
    let there = c.go_to.ensures in
    cause-over_before wan earlier c.args.closing
    (lt-leb _ _ (omega (arith, c.if-closing-links.false, c.requires.links)))
    (closed-found c.closings.result.now earlier c.args.closing.link c.is_closed.result c.closings.ensures c.is_closed.ensures ∙ c.if-is_closed.false)
    c.in-Some.link
    (le-ltb _ _ (omega (arith, c.if-closing-share.false, c.share.ensures, c.requires.last)))
    (lt-leb _ _ (omega (arith, c.if-closing-top.false, c.requires.top)))
    (sym (over-along _ wan _ earlier _ c.args.closing.share there.wan there.closings there.share) ∙ sym c.first_over.ensures ∙ c.in-Some.is)

pub returns-clause-cause : goal.returns-clause-cause
returns-clause-cause g c =
    let wan : Wan = wan_in g.V.GroupValues.meaning c.args.moment.now in
    let earlier : List Closing = reverse c.args.moment.now.growth.closings in
    let there = c.go_to.ensures in
    let past = c.go_to-2.ensures in
    let next : c.go_to-2.new.self.share ≡ suc c.args.closing.share = past.share ∙ add-one c.args.closing.share in
    c.next_cause.ensures
    ∙ ap₂ (λ (named : Bool) (over : Option ℕ). next_cause c.args.closing.link named over)
    (c.is_over-is_named_over.ensures ∙ named-along _ wan _ earlier _ (suc c.args.closing.share) c.args.closing.link (past.wan ∙ there.wan) (past.closings ∙ there.closings) next)
    (c.first_over-2.ensures ∙ over-along _ wan _ earlier _ (suc c.args.closing.share) (past.wan ∙ there.wan) (past.closings ∙ there.closings) next)
    ∙ cause-next wan earlier c.args.closing
    (lt-leb _ _ (omega (arith, c.if-closing-links.false, c.requires.links)))
    (closed-found c.closings.result.now earlier c.args.closing.link c.is_closed.result c.closings.ensures c.is_closed.ensures ∙ c.if-is_closed.false)
    (le-ltb _ _ (omega (arith, c.if-closing-share.false, c.share.ensures, c.requires.last)))
    (lt-leb _ _ (omega (arith, c.if-closing-top.false, c.requires.top)))
    (sym (over-along _ wan _ earlier _ c.args.closing.share there.wan there.closings there.share) ∙ sym c.first_over.ensures ∙ c.in_default.is)
