use Rattle.std.proofs.Common.{◌≡◌, ◌<◌, ◌≤◌, true, List, length, sym, ◌∙◌, ap, arith, subst, inl, inr, get_or, take, eqb-true, ◌==◌}
use Rattle.std.proofs.lemmas.List.{take_all}
use Rattle.std.proofs.lemmas.List.Folds.{list_any_more}
use Rattle.bwe_specs.specs.declared.network.Closing.{Closing}
use Rattle.bwe_specs.specs.Filling.{Wan}
use Rattle.bwe_specs.specs.Paths.{PathGroup, path_group_at, uses}
use Rattle.bwe_specs.proofs.Loads.{or-true}
use Rattle.path_groups.specs.declared.part.LinkPart.{LinkPart}
use Rattle.path_groups.specs.Parts.{AreParts, has_part}
use Rattle.path_groups.proofs.Parts.{AreParts-used}
use Rattle.link_front.specs.Front.{wan_in, closings_in}
use Rattle.closing_walk.specs.Walk.{Settles, IsHigh, from_at}
use Rattle.closing_walk.proofs.Settling.{settles-none, settles-then}
use Rattle.closing_walk.proofs.Looked.{unlooked-most, unlooked-one, unlooked-less}
use Rattle.closing_walk.proofs.walk.settles_links.Goals as goal

pub loop-part-init : goal.loop-part-init
loop-part-init g c =
    record {
      known = c.requires.known;
      settles = settles-none (wan_in g.V.GroupValues.meaning c.args.front.now) (closings_in c.args.front.now) c.args.closings.now c.args.at c.args.froms.now c.requires.owing;
      low = λ link has le high. absurd (cc);
      settled = λ leaves link has. absurd (cc);
      ticks = omega arith;
    }

pub settles_link-requires-clause-link : goal.settles_link-requires-clause-link
settles_link-requires-clause-link g c =
    let wan : Wan = wan_in g.V.GroupValues.meaning c.args.front.now in
    let closings : List Closing = closings_in c.args.front.now in
    let list : List Closing = c.args.closings.now in
    let pg : PathGroup = path_group_at wan.groups c.args.group c.args.place in
    let parts : List LinkPart = c.parts-part-items.result.now in
    let are : AreParts pg parts = subst (λ groups. AreParts (path_group_at groups c.args.group c.args.place) parts) (c.plan.ensures ∙ c.requires.front.listed) c.parts-part-items.ensures.parts in
    let d : LinkPart = record { link = 0; weight = 0; whole = 0 } in
    let part : LinkPart = get_or parts c.loop-part.part-index d in
    let used : uses pg part.link ≡ true = (are.some.each c.loop-part.part-index d c.loop-part-test.true).used in
    let growth = c.requires.front.growth in
    let inside : part.link < length wan.capacities = omega (arith, growth.summed.links c.args.group c.args.place part.link used, growth.links) in
    let i = c.loop-part.invariant in
    inside

pub settles_link-requires-clause-owing : goal.settles_link-requires-clause-owing
settles_link-requires-clause-owing g c = c.loop-part.invariant.settles.owing

pub returns-in_err-settles_link-clause-ticks : goal.returns-in_err-settles_link-clause-ticks
returns-in_err-settles_link-clause-ticks g c =
    let wan : Wan = wan_in g.V.GroupValues.meaning c.args.front.now in
    let closings : List Closing = closings_in c.args.front.now in
    let list : List Closing = c.args.closings.now in
    let pg : PathGroup = path_group_at wan.groups c.args.group c.args.place in
    let parts : List LinkPart = c.parts-part-items.result.now in
    let are : AreParts pg parts = subst (λ groups. AreParts (path_group_at groups c.args.group c.args.place) parts) (c.plan.ensures ∙ c.requires.front.listed) c.parts-part-items.ensures.parts in
    let d : LinkPart = record { link = 0; weight = 0; whole = 0 } in
    let part : LinkPart = get_or parts c.loop-part.part-index d in
    let used : uses pg part.link ≡ true = (are.some.each c.loop-part.part-index d c.loop-part-test.true).used in
    let growth = c.requires.front.growth in
    let inside : part.link < length wan.capacities = omega (arith, growth.summed.links c.args.group c.args.place part.link used, growth.links) in
    let i = c.loop-part.invariant in
    omega (arith, i.ticks, c.settles_link.ensures.ticks, unlooked-one (length wan.capacities) pg c.args.at c.loop-part.froms part.link inside used, unlooked-most (length wan.capacities) pg c.args.at c.args.froms.now)

pub returns-then-not-branch-clause-ticks : goal.returns-then-not-branch-clause-ticks
returns-then-not-branch-clause-ticks g c =
    let wan : Wan = wan_in g.V.GroupValues.meaning c.args.front.now in
    let closings : List Closing = closings_in c.args.front.now in
    let list : List Closing = c.args.closings.now in
    let pg : PathGroup = path_group_at wan.groups c.args.group c.args.place in
    let parts : List LinkPart = c.parts-part-items.result.now in
    let are : AreParts pg parts = subst (λ groups. AreParts (path_group_at groups c.args.group c.args.place) parts) (c.plan.ensures ∙ c.requires.front.listed) c.parts-part-items.ensures.parts in
    let d : LinkPart = record { link = 0; weight = 0; whole = 0 } in
    let part : LinkPart = get_or parts c.loop-part.part-index d in
    let used : uses pg part.link ≡ true = (are.some.each c.loop-part.part-index d c.loop-part-test.true).used in
    let growth = c.requires.front.growth in
    let inside : part.link < length wan.capacities = omega (arith, growth.summed.links c.args.group c.args.place part.link used, growth.links) in
    let i = c.loop-part.invariant in
    omega (arith, i.ticks, c.settles_link.ensures.ticks, unlooked-one (length wan.capacities) pg c.args.at c.loop-part.froms part.link inside used, unlooked-most (length wan.capacities) pg c.args.at c.args.froms.now)

pub loop-part-preserved : goal.loop-part-preserved
loop-part-preserved g c =
    let wan : Wan = wan_in g.V.GroupValues.meaning c.args.front.now in
    let closings : List Closing = closings_in c.args.front.now in
    let list : List Closing = c.args.closings.now in
    let pg : PathGroup = path_group_at wan.groups c.args.group c.args.place in
    let parts : List LinkPart = c.parts-part-items.result.now in
    let are : AreParts pg parts = subst (λ groups. AreParts (path_group_at groups c.args.group c.args.place) parts) (c.plan.ensures ∙ c.requires.front.listed) c.parts-part-items.ensures.parts in
    let d : LinkPart = record { link = 0; weight = 0; whole = 0 } in
    let part : LinkPart = get_or parts c.loop-part.part-index d in
    let used : uses pg part.link ≡ true = (are.some.each c.loop-part.part-index d c.loop-part-test.true).used in
    let growth = c.requires.front.growth in
    let inside : part.link < length wan.capacities = omega (arith, growth.summed.links c.args.group c.args.place part.link used, growth.links) in
    let i = c.loop-part.invariant in
    let e = c.in_ok-settles_link.ensures in
    let next : Settles wan closings list c.args.at c.loop-part.froms c.settles_link.new.froms = e.settles c.if-not-branch.false in
    record {
      known = e.known;
      settles = settles-then wan closings list c.args.at c.args.froms.now c.loop-part.froms c.settles_link.new.froms i.settles next;
      low = λ link has le high. elim (or-true (has_part (take c.loop-part.part-index parts) link) (part.link == link) (sym (list_any_more (λ part. part.link == link) parts c.loop-part.part-index d c.loop-part-test.true) ∙ has)) [
        | inl old ↦ let same = next.same link le in i.low link old (omega (arith, le, same)) (subst (IsHigh list c.args.at link) same high)
        | inr same ↦ let e_link = sym (eqb-true part.link link same) in
            e.low c.if-not-branch.false (subst (λ k. from_at c.settles_link.new.froms k ≤ c.args.at) e_link le) (subst (λ k. IsHigh list c.args.at k (from_at c.settles_link.new.froms k)) e_link high)
      ];
      settled = λ leaves link has. elim (or-true (has_part (take c.loop-part.part-index parts) link) (part.link == link) (sym (list_any_more (λ part. part.link == link) parts c.loop-part.part-index d c.loop-part-test.true) ∙ has)) [
        | inl old ↦ next.keeps link (i.settled leaves link old)
        | inr same ↦ subst (λ k. c.args.at < from_at c.settles_link.new.froms k) (eqb-true part.link link same) (e.settled c.if-not-branch.false leaves)
      ];
      ticks = omega (arith, i.ticks, e.ticks_seen c.if-not-branch.false, unlooked-less (length wan.capacities) pg c.args.at c.loop-part.froms c.settles_link.new.froms part.link inside used next.keeps);
    }

pub returns-clause-settled : goal.returns-clause-settled
returns-clause-settled g c = λ _ leaves link used.
    let wan : Wan = wan_in g.V.GroupValues.meaning c.args.front.now in
    let closings : List Closing = closings_in c.args.front.now in
    let list : List Closing = c.args.closings.now in
    let pg : PathGroup = path_group_at wan.groups c.args.group c.args.place in
    let parts : List LinkPart = c.parts-part-items.result.now in
    let are : AreParts pg parts = subst (λ groups. AreParts (path_group_at groups c.args.group c.args.place) parts) (c.plan.ensures ∙ c.requires.front.listed) c.parts-part-items.ensures.parts in
    c.loop-part.invariant.settled leaves link
    (ap (λ ps. has_part ps link) (take_all c.loop-part.part-index parts c.loop-part-test.false) ∙ AreParts-used pg parts link are ∙ used)

pub returns-clause-low : goal.returns-clause-low
returns-clause-low g c = λ _ link used.
    let wan : Wan = wan_in g.V.GroupValues.meaning c.args.front.now in
    let closings : List Closing = closings_in c.args.front.now in
    let list : List Closing = c.args.closings.now in
    let pg : PathGroup = path_group_at wan.groups c.args.group c.args.place in
    let parts : List LinkPart = c.parts-part-items.result.now in
    let are : AreParts pg parts = subst (λ groups. AreParts (path_group_at groups c.args.group c.args.place) parts) (c.plan.ensures ∙ c.requires.front.listed) c.parts-part-items.ensures.parts in
    c.loop-part.invariant.low link
    (ap (λ ps. has_part ps link) (take_all c.loop-part.part-index parts c.loop-part-test.false) ∙ AreParts-used pg parts link are ∙ used)

pub returns-clause-ticks : goal.returns-clause-ticks
returns-clause-ticks g c =
    let wan : Wan = wan_in g.V.GroupValues.meaning c.args.front.now in
    let closings : List Closing = closings_in c.args.front.now in
    let list : List Closing = c.args.closings.now in
    let pg : PathGroup = path_group_at wan.groups c.args.group c.args.place in
    let parts : List LinkPart = c.parts-part-items.result.now in
    let are : AreParts pg parts = subst (λ groups. AreParts (path_group_at groups c.args.group c.args.place) parts) (c.plan.ensures ∙ c.requires.front.listed) c.parts-part-items.ensures.parts in
    omega (arith, c.loop-part.invariant.ticks, unlooked-most (length wan.capacities) pg c.args.at c.args.froms.now)
