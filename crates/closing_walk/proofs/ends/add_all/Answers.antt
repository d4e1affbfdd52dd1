use Rattle.std.proofs.Common.{ℕ, suc, List, refl, ◌∙◌, subst}
use Rattle.bwe_specs.specs.declared.network.Closing.{Closing}
use Rattle.bwe_specs.specs.Filling.{Wan}
use Rattle.mpfa_fill.proofs.MomentLemmas.{never_falls}
use Rattle.link_front.specs.ByLink.{AreGroupsOn}
use Rattle.link_front.specs.Front.{wan_in, closings_in}
use Rattle.link_front.proofs.GroupMoves.{keeps-path_group}
use Rattle.link_front.proofs.Walks.{walk-start, walk-here, walk-next, walk-end}
use Rattle.closing_walk.specs.Walk.{closing_at}
use Rattle.closing_walk.specs.Ends.{AreWithin}
use Rattle.closing_walk.proofs.EndLoads.{within-start, within-kept}
use Rattle.closing_walk.proofs.ends.add_all.Goals as goal

pub loop-group-init : goal.loop-group-init
loop-group-init g c =
    let wan : Wan = wan_in g.V.GroupValues.meaning c.args.front.now in
    let closings : List Closing = closings_in c.args.front.now in
    let list : List Closing = c.args.closings.now in
    let at : ℕ = c.args.at in
    let r = c.requires in
    let items : List ℕ = c.on-group-items.result.now in
    let link : ℕ = (closing_at list at).link in
    let are : AreGroupsOn wan.groups link items = subst (λ groups. AreGroupsOn groups link items) r.front.listed c.on-group-items.ensures in
    let never = never_falls _ _ _ r.front.growth.known in
    record {
      each = refl;
      within = walk-start wan.groups link items are (AreWithin wan closings list (suc (closing_at list at).share) c.args.extra.now)
          (within-start wan never closings list at r.order r.closings r.rise r.below r.later c.args.extra.now)
          (λ k kl unused so. within-kept wan never closings list at r.order r.closings r.rise r.below r.later c.args.extra.now k (keeps-path_group wan closings (closing_at list at) k (λ place current. unused place)) so);
    }

pub add_group-requires-clause-group : goal.add_group-requires-clause-group
add_group-requires-clause-group g c =
    let wan : Wan = wan_in g.V.GroupValues.meaning c.args.front.now in
    let items : List ℕ = c.on-group-items.result.now in
    let link : ℕ = (closing_at c.args.closings.now c.args.at).link in
    let are : AreGroupsOn wan.groups link items = subst (λ groups. AreGroupsOn groups link items) c.requires.front.listed c.on-group-items.ensures in
    are.ascending.below c.loop-group.group-index c.loop-group-test.true

pub add_group-requires-clause-within : goal.add_group-requires-clause-within
add_group-requires-clause-within g c =
    let wan : Wan = wan_in g.V.GroupValues.meaning c.args.front.now in
    let list : List Closing = c.args.closings.now in
    let items : List ℕ = c.on-group-items.result.now in
    let link : ℕ = (closing_at list c.args.at).link in
    let are : AreGroupsOn wan.groups link items = subst (λ groups. AreGroupsOn groups link items) c.requires.front.listed c.on-group-items.ensures in
    walk-here wan.groups link items are (AreWithin wan (closings_in c.args.front.now) list (suc (closing_at list c.args.at).share) c.loop-group.extra) c.loop-group.group-index c.loop-group-test.true c.loop-group.invariant.within

pub loop-group-preserved : goal.loop-group-preserved
loop-group-preserved g c =
    let wan : Wan = wan_in g.V.GroupValues.meaning c.args.front.now in
    let closings : List Closing = closings_in c.args.front.now in
    let list : List Closing = c.args.closings.now in
    let at : ℕ = c.args.at in
    let r = c.requires in
    let items : List ℕ = c.on-group-items.result.now in
    let link : ℕ = (closing_at list at).link in
    let are : AreGroupsOn wan.groups link items = subst (λ groups. AreGroupsOn groups link items) r.front.listed c.on-group-items.ensures in
    let never = never_falls _ _ _ r.front.growth.known in
    let e = c.add_group.ensures in
    record {
      each = e.each ∙ c.loop-group.invariant.each;
      within = walk-next wan.groups link items are (AreWithin wan closings list (suc (closing_at list at).share) c.add_group.new.extra) c.loop-group.group-index c.loop-group-test.true e.within
          (λ k kl unused so. within-kept wan never closings list at r.order r.closings r.rise r.below r.later c.add_group.new.extra k (keeps-path_group wan closings (closing_at list at) k (λ place current. unused place)) so);
    }

pub returns-clause-within : goal.returns-clause-within
returns-clause-within g c =
    let wan : Wan = wan_in g.V.GroupValues.meaning c.args.front.now in
    let closings : List Closing = closings_in c.args.front.now in
    let list : List Closing = c.args.closings.now in
    let items : List ℕ = c.on-group-items.result.now in
    let link : ℕ = (closing_at list c.args.at).link in
    let are : AreGroupsOn wan.groups link items = subst (λ groups. AreGroupsOn groups link items) c.requires.front.listed c.on-group-items.ensures in
    walk-end wan.groups link items are (AreWithin wan closings list (suc (closing_at list c.args.at).share) c.loop-group.extra) c.loop-group.group-index c.loop-group-test.false c.loop-group.invariant.within
