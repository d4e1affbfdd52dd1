use Rattle.std.proofs.Common.{ℕ, ◌<◌, List, length, arith, subst, slice_index}
use Rattle.bwe_specs.specs.declared.network.Closing.{Closing}
use Rattle.bwe_specs.specs.Filling.{Wan}
use Rattle.link_front.specs.ByLink.{AreGroupsOn}
use Rattle.link_front.specs.Front.{wan_in, closings_in}
use Rattle.closing_walk.specs.Walk.{closing_at, Settles}
use Rattle.closing_walk.proofs.AllGroups.{AreOff, off-start, off-next, off-unused, looks-within}
use Rattle.closing_walk.proofs.Settling.{settles-none, settles-then}
use Rattle.link_front.proofs.Walks.{walk-start, walk-here, walk-next, walk-end}
use Rattle.closing_walk.proofs.walk.settles_all.Goals as goal

pub loop-group-init : goal.loop-group-init
loop-group-init g c =
    let wan : Wan = wan_in g.V.GroupValues.meaning c.args.front.now in
    let earlier : List Closing = closings_in c.args.front.now in
    let list : List Closing = c.args.closings.now in
    let closing : Closing = closing_at list c.args.at in
    let items : List ℕ = c.on-group-items.result.now in
    let are : AreGroupsOn wan.groups closing.link items = subst (λ groups. AreGroupsOn groups closing.link items) c.requires.front.listed c.on-group-items.ensures in
    record {
      known = c.requires.known;
      settles = settles-none wan earlier list c.args.at c.args.froms.now c.requires.owing;
      off = walk-start wan.groups closing.link items are (AreOff wan earlier list c.args.at c.args.froms.now c.args.steps.now c.args.steps.now)
          (off-start wan earlier list c.args.at c.args.froms.now c.args.steps.now)
          (λ group lt unused so. off-unused wan earlier list c.args.at c.args.froms.now c.args.steps.now c.args.steps.now group unused so);
    }

pub settles_group-requires-clause-group : goal.settles_group-requires-clause-group
settles_group-requires-clause-group g c =
    let wan : Wan = wan_in g.V.GroupValues.meaning c.args.front.now in
    let earlier : List Closing = closings_in c.args.front.now in
    let list : List Closing = c.args.closings.now in
    let closing : Closing = closing_at list c.args.at in
    let items : List ℕ = c.on-group-items.result.now in
    let are : AreGroupsOn wan.groups closing.link items = subst (λ groups. AreGroupsOn groups closing.link items) c.requires.front.listed c.on-group-items.ensures in
    are.ascending.below c.loop-group.group-index c.loop-group-test.true

pub settles_group-requires-clause-owing : goal.settles_group-requires-clause-owing
settles_group-requires-clause-owing g c = c.loop-group.invariant.settles.owing

pub returns-in_err-settles_group-clause-ticks : goal.returns-in_err-settles_group-clause-ticks
returns-in_err-settles_group-clause-ticks g c =
    let wan : Wan = wan_in g.V.GroupValues.meaning c.args.front.now in
    let earlier : List Closing = closings_in c.args.front.now in
    let list : List Closing = c.args.closings.now in
    let closing : Closing = closing_at list c.args.at in
    let items : List ℕ = c.on-group-items.result.now in
    let are : AreGroupsOn wan.groups closing.link items = subst (λ groups. AreGroupsOn groups closing.link items) c.requires.front.listed c.on-group-items.ensures in
    let at : ℕ = c.loop-group.group-index in
    let group : ℕ = slice_index items at in
    let i = c.loop-group.invariant in
    let lt : group < length wan.groups = are.ascending.below at c.loop-group-test.true in
    let here : AreOff wan earlier list c.args.at c.loop-group.froms c.args.steps.now c.loop-group.steps group =
    walk-here wan.groups closing.link items are (AreOff wan earlier list c.args.at c.loop-group.froms c.args.steps.now c.loop-group.steps) at c.loop-group-test.true i.off in
    looks-within wan earlier list c.args.at c.args.steps.now c.loop-group.steps c.settles_group.new.steps group lt c.settles_group.ensures.ticks here.ticks

pub returns-then-not-branch-clause-ticks : goal.returns-then-not-branch-clause-ticks
returns-then-not-branch-clause-ticks g c =
    let wan : Wan = wan_in g.V.GroupValues.meaning c.args.front.now in
    let earlier : List Closing = closings_in c.args.front.now in
    let list : List Closing = c.args.closings.now in
    let closing : Closing = closing_at list c.args.at in
    let items : List ℕ = c.on-group-items.result.now in
    let are : AreGroupsOn wan.groups closing.link items = subst (λ groups. AreGroupsOn groups closing.link items) c.requires.front.listed c.on-group-items.ensures in
    let at : ℕ = c.loop-group.group-index in
    let group : ℕ = slice_index items at in
    let i = c.loop-group.invariant in
    let lt : group < length wan.groups = are.ascending.below at c.loop-group-test.true in
    let here : AreOff wan earlier list c.args.at c.loop-group.froms c.args.steps.now c.loop-group.steps group =
    walk-here wan.groups closing.link items are (AreOff wan earlier list c.args.at c.loop-group.froms c.args.steps.now c.loop-group.steps) at c.loop-group-test.true i.off in
    looks-within wan earlier list c.args.at c.args.steps.now c.loop-group.steps c.settles_group.new.steps group lt c.settles_group.ensures.ticks here.ticks

pub loop-group-preserved : goal.loop-group-preserved
loop-group-preserved g c =
    let wan : Wan = wan_in g.V.GroupValues.meaning c.args.front.now in
    let earlier : List Closing = closings_in c.args.front.now in
    let list : List Closing = c.args.closings.now in
    let closing : Closing = closing_at list c.args.at in
    let items : List ℕ = c.on-group-items.result.now in
    let are : AreGroupsOn wan.groups closing.link items = subst (λ groups. AreGroupsOn groups closing.link items) c.requires.front.listed c.on-group-items.ensures in
    let at : ℕ = c.loop-group.group-index in
    let group : ℕ = slice_index items at in
    let i = c.loop-group.invariant in
    let lt : group < length wan.groups = are.ascending.below at c.loop-group-test.true in
    let here : AreOff wan earlier list c.args.at c.loop-group.froms c.args.steps.now c.loop-group.steps group =
    walk-here wan.groups closing.link items are (AreOff wan earlier list c.args.at c.loop-group.froms c.args.steps.now c.loop-group.steps) at c.loop-group-test.true i.off in
    let e = c.in_ok-settles_group.ensures in
    let next : Settles wan earlier list c.args.at c.loop-group.froms c.settles_group.new.froms = e.settles c.if-not-branch.false in
    record {
      known = e.known;
      settles = settles-then wan earlier list c.args.at c.args.froms.now c.loop-group.froms c.settles_group.new.froms i.settles next;
      off = walk-next wan.groups closing.link items are (AreOff wan earlier list c.args.at c.settles_group.new.froms c.args.steps.now c.settles_group.new.steps) at c.loop-group-test.true
          (off-next wan earlier list c.args.at c.loop-group.froms c.settles_group.new.froms c.args.steps.now c.loop-group.steps c.settles_group.new.steps group next.keeps next.same (e.off c.if-not-branch.false) c.settles_group.ensures.ticks here)
          (λ k kl unused so. off-unused wan earlier list c.args.at c.settles_group.new.froms c.args.steps.now c.settles_group.new.steps k unused so);
    }

pub returns-clause-off : goal.returns-clause-off
returns-clause-off g c = λ _.
    let wan : Wan = wan_in g.V.GroupValues.meaning c.args.front.now in
    let earlier : List Closing = closings_in c.args.front.now in
    let list : List Closing = c.args.closings.now in
    let closing : Closing = closing_at list c.args.at in
    let items : List ℕ = c.on-group-items.result.now in
    let are : AreGroupsOn wan.groups closing.link items = subst (λ groups. AreGroupsOn groups closing.link items) c.requires.front.listed c.on-group-items.ensures in
    let all : AreOff wan earlier list c.args.at c.loop-group.froms c.args.steps.now c.loop-group.steps (length wan.groups) =
    walk-end wan.groups closing.link items are (AreOff wan earlier list c.args.at c.loop-group.froms c.args.steps.now c.loop-group.steps) c.loop-group.group-index c.loop-group-test.false c.loop-group.invariant.off in
    all.off

pub returns-clause-ticks : goal.returns-clause-ticks
returns-clause-ticks g c =
    let wan : Wan = wan_in g.V.GroupValues.meaning c.args.front.now in
    let earlier : List Closing = closings_in c.args.front.now in
    let list : List Closing = c.args.closings.now in
    let closing : Closing = closing_at list c.args.at in
    let items : List ℕ = c.on-group-items.result.now in
    let are : AreGroupsOn wan.groups closing.link items = subst (λ groups. AreGroupsOn groups closing.link items) c.requires.front.listed c.on-group-items.ensures in
    let all : AreOff wan earlier list c.args.at c.loop-group.froms c.args.steps.now c.loop-group.steps (length wan.groups) =
    walk-end wan.groups closing.link items are (AreOff wan earlier list c.args.at c.loop-group.froms c.args.steps.now c.loop-group.steps) c.loop-group.group-index c.loop-group-test.false c.loop-group.invariant.off in
    omega (arith, all.ticks)

pub returns-clause-ticks_seen : goal.returns-clause-ticks_seen
returns-clause-ticks_seen g c = λ _.
    let wan : Wan = wan_in g.V.GroupValues.meaning c.args.front.now in
    let earlier : List Closing = closings_in c.args.front.now in
    let list : List Closing = c.args.closings.now in
    let closing : Closing = closing_at list c.args.at in
    let items : List ℕ = c.on-group-items.result.now in
    let are : AreGroupsOn wan.groups closing.link items = subst (λ groups. AreGroupsOn groups closing.link items) c.requires.front.listed c.on-group-items.ensures in
    let all : AreOff wan earlier list c.args.at c.loop-group.froms c.args.steps.now c.loop-group.steps (length wan.groups) =
    walk-end wan.groups closing.link items are (AreOff wan earlier list c.args.at c.loop-group.froms c.args.steps.now c.loop-group.steps) c.loop-group.group-index c.loop-group-test.false c.loop-group.invariant.off in
    all.ticks
