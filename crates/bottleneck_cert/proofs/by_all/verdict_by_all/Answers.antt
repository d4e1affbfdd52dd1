use Rattle.std.proofs.Common.{◌≡◌, ℕ, ◌+◌, ◌∙◌, sym, ap, ap₂, arith, List, ◌∷◌, length, reverse, drop, slice_index_or}
use Rattle.bwe_specs.specs.declared.network.Closing.{Closing}
use Rattle.bwe_specs.specs.declared.network.Verdict.TheVariants.{Wrong}
use Rattle.bwe_specs.specs.Filling.{Wan}
use Rattle.bwe_specs.specs.RightClosings.{last_share, cause_after, top_verdict, verdict_after, verdict, IsRightAfter}
use Rattle.allocation_laws.proofs.Verdicts.{cause-none}
use Rattle.mpfa_fill.specs.GroupValues.{wan_of}
use Rattle.mpfa_fill.proofs.MomentLemmas.{never_falls, over-along, right-along}
use Rattle.bottleneck_cert.proofs.Causes.{verdict-here, verdict-next, verdict-end}
use Rattle.bottleneck_cert.proofs.by_all.verdict_by_all.Given.{Over}
use Rattle.bottleneck_cert.proofs.by_all.verdict_by_all.Goals as goal
use Rattle.bottleneck_cert.proofs.by_all.verdict_by_all.Goals.{After-drop-moment-in-Some-5, After-drop-moment-7}

-- a closing at fault is the first ..
fault-said : (g : Over) (c : After-drop-moment-in-Some-5 g)
    → Wrong c.loop-place.place c.in-Some.cause ≡ verdict (wan_of (g.V.GroupValues.meaning c.args.values.now) c.args.plan.now c.args.topology.now.capacities) c.args.closings.now
fault-said g c =
    let wan : Wan = wan_of (g.V.GroupValues.meaning c.args.values.now) c.args.plan.now c.args.topology.now.capacities in
    let i = c.loop-place.invariant in
    let earlier : List Closing = reverse c.loop-place.moment.growth.closings in
    let d : Closing = record { link = 0; share = 0 } in
    let closing : Closing = slice_index_or c.args.closings.now c.loop-place.place d in
    verdict-here wan earlier c.args.closings.now c.loop-place.place d c.in-Some.cause c.loop-place-test.true
    (sym (c.cause_of-cause.ensures.cause ∙ ap (λ w. cause_after w earlier closing) i.wan) ∙ c.in-Some.is)
    ∙ i.rest

-- .. and after all closings the verdict goes by the top
top-said : (g : Over) (c : After-drop-moment-7 g)
    → c.top_verdict.result ≡ verdict (wan_of (g.V.GroupValues.meaning c.args.values.now) c.args.plan.now c.args.topology.now.capacities) c.args.closings.now
top-said g c =
    let wan : Wan = wan_of (g.V.GroupValues.meaning c.args.values.now) c.args.plan.now c.args.topology.now.capacities in
    let i = c.loop-place.invariant in
    let gone = c.go_to-2.ensures in
    let earlier : List Closing = reverse c.loop-place.moment.growth.closings in
    let e : length c.args.closings.now ≡ c.loop-place.place = omega (arith, c.loop-place-test.false, c.loop-place.auto.place-end) in
    c.top_verdict.ensures
    ∙ ap₂ top_verdict (c.first_over.ensures ∙ over-along _ wan _ earlier _ wan.top (gone.wan ∙ i.wan) gone.closings (gone.share ∙ c.top-top.ensures.top)) e
    ∙ verdict-end wan earlier c.args.closings.now c.loop-place.place (record { link = 0; share = 0 }) c.loop-place-test.false
    ∙ i.rest

pub returns-in-Some : goal.returns-in-Some
returns-in-Some g c = fault-said g c

pub go_to-requires-clause-last : goal.go_to-requires-clause-last
go_to-requires-clause-last g c =
    let wan : Wan = wan_of (g.V.GroupValues.meaning c.args.values.now) c.args.plan.now c.args.topology.now.capacities in
    let earlier : List Closing = reverse c.loop-place.moment.growth.closings in
    let closing : Closing = slice_index_or c.args.closings.now c.loop-place.place (record { link = 0; share = 0 }) in
    let right : IsRightAfter wan earlier closing =
    cause-none wan earlier closing (sym (c.cause_of-cause.ensures.cause ∙ ap (λ w. cause_after w earlier closing) c.loop-place.invariant.wan) ∙ c.in_default.is) in
    omega (arith, right.share_keeps, ap last_share c.cause_of-cause.ensures.closings)

pub go_to-requires-clause-within : goal.go_to-requires-clause-within
go_to-requires-clause-within g c =
    let wan : Wan = wan_of (g.V.GroupValues.meaning c.args.values.now) c.args.plan.now c.args.topology.now.capacities in
    let i = c.loop-place.invariant in
    let earlier : List Closing = reverse c.loop-place.moment.growth.closings in
    let closing : Closing = slice_index_or c.args.closings.now c.loop-place.place (record { link = 0; share = 0 }) in
    let right : IsRightAfter wan earlier closing =
    cause-none wan earlier closing (sym (c.cause_of-cause.ensures.cause ∙ ap (λ w. cause_after w earlier closing) i.wan) ∙ c.in_default.is) in
    omega (arith, right.below_top, ap (λ (w : Wan). w.top) (c.cause_of-cause.ensures.wan ∙ i.wan))

pub close_link-requires-clause-right : goal.close_link-requires-clause-right
close_link-requires-clause-right g c =
    let wan : Wan = wan_of (g.V.GroupValues.meaning c.args.values.now) c.args.plan.now c.args.topology.now.capacities in
    let i = c.loop-place.invariant in
    let judged = c.cause_of-cause.ensures in
    let gone = c.go_to.ensures in
    let earlier : List Closing = reverse c.loop-place.moment.growth.closings in
    let closing : Closing = slice_index_or c.args.closings.now c.loop-place.place (record { link = 0; share = 0 }) in
    right-along _ wan _ earlier closing.link _ closing.share (gone.wan ∙ judged.wan ∙ i.wan) (gone.closings ∙ judged.closings) gone.share
    (cause-none wan earlier closing (sym (judged.cause ∙ ap (λ w. cause_after w earlier closing) i.wan) ∙ c.in_default.is))

pub loop-place-preserved : goal.loop-place-preserved
loop-place-preserved g c =
    let wan : Wan = wan_of (g.V.GroupValues.meaning c.args.values.now) c.args.plan.now c.args.topology.now.capacities in
    let i = c.loop-place.invariant in
    let judged = c.cause_of-cause.ensures in
    let gone = c.go_to.ensures in
    let closed = c.in_ok-close_link.ensures in
    let earlier : List Closing = reverse c.loop-place.moment.growth.closings in
    let d : Closing = record { link = 0; share = 0 } in
    let closing : Closing = slice_index_or c.args.closings.now c.loop-place.place d in
    let closings : reverse c.close_link.new.self.growth.closings ≡ closing ∷ earlier =
    closed.closings ∙ ap₂ (λ (s : ℕ) (cs : List Closing). record { link = closing.link; share = s } ∷ cs) gone.share (gone.closings ∙ judged.closings) in
    record {
      moment = closed.moment;
      wan = closed.wan ∙ gone.wan ∙ judged.wan ∙ i.wan;
      last = closed.share ∙ gone.share ∙ ap last_share (sym closings);
      rest = ap (λ cs. verdict_after wan cs (drop (c.loop-place.place + 1) c.args.closings.now) (c.loop-place.place + 1)) closings
          ∙ verdict-next wan earlier c.args.closings.now c.loop-place.place d c.loop-place-test.true
          (sym (judged.cause ∙ ap (λ w. cause_after w earlier closing) i.wan) ∙ c.in_default.is)
          ∙ i.rest;
    }

pub returns : goal.returns
returns g c = top-said g c
