use Rattle.std.proofs.Common.{◌≡◌, ℕ, ◌+◌, ◌<◌, sym, ◌∙◌, ap, ap₂, refl, subst, arith, length, reverse, List, [], ◌∷◌, ◌++◌, set, slice_index, slice_index_or}
use Rattle.std.proofs.lemmas.List.{length-set}
use Rattle.bwe_specs.specs.declared.network.Closing.{Closing}
use Rattle.bwe_specs.specs.Filling.{Wan, closed_links}
use Rattle.bwe_specs.specs.Paths.{PathGroups}
use Rattle.bwe_specs.specs.Values.{NeverFalls}
use Rattle.mpfa_fill.specs.declared.standing.Standing.{Standing}
use Rattle.mpfa_fill.specs.declared.standing.Standing.TheVariants.{Stopped}
use Rattle.mpfa_fill.specs.Growth.{IsGrowthOf, IsHeld, IsUpOver, added_in as growth_added}
use Rattle.mpfa_fill.specs.Standing.{IsPlaced, standing_under}
use Rattle.mpfa_fill.proofs.Closed.{held-after, elsewhere-after}
use Rattle.mpfa_fill.proofs.Growths.{growth-along, held-placed}
use Rattle.mpfa_fill.proofs.MomentLemmas.{never_falls, reverse_push}
use Rattle.mpfa_fill.proofs.StandingLemmas.{gone-written, left-written}
use Rattle.link_front.specs.ByLink.{AreGroupsOn}
use Rattle.link_front.specs.Front.{wan_in, closings_in}
use Rattle.link_front.proofs.Moving.{AreMoved, moved-unused, growth-after}
use Rattle.link_front.proofs.Walks.{reached, walk-start, walk-here, walk-next, walk-end}
use Rattle.link_front.proofs.front.Front.close.Goals as goal

pub loop-group-init : goal.loop-group-init
loop-group-init g c =
    let wan : Wan = wan_in g.V.GroupValues.meaning c.args.self.now in
    let earlier : List Closing = closings_in c.args.self.now in
    let closing : Closing = c.args.closing in
    let parts = c.bring_up.ensures.parts in
    let added : ℕ → ℕ → ℕ = growth_added c.close.new.self in
    let items : List ℕ = c.on-group-items.result.now in
    let are : AreGroupsOn wan.groups closing.link items = subst (λ groups. AreGroupsOn groups closing.link items) (parts.by_link ∙ c.requires.front.listed) c.on-group-items.ensures in
    let never : NeverFalls wan = never_falls _ _ _ c.requires.front.growth.known in
    let growth : IsGrowthOf (g.V.GroupValues.meaning c.args.self.now.growth.values.now) wan earlier c.close.new.self.standings.items c.close.new.self.sums =
    growth-after g.V.GroupValues.meaning c.args.self.now.growth c.bring_up.new.self.growth c.close.new.self parts.growth c.close.ensures.standings c.close.ensures.sums c.bring_up.ensures.front.growth in
    record {
      network = record {
        values = c.close.ensures.network.values ∙ parts.growth.network.values;
        topology = c.close.ensures.network.topology ∙ parts.growth.network.topology;
        plan = c.close.ensures.network.plan ∙ parts.growth.network.plan;
      };
      closings = c.in_ok-close.ensures.closings ∙ ap (λ (cs : List Closing). cs ++ closing ∷ []) parts.growth.closings;
      sums = refl;
      each_group = growth.each_group;
      by_link = parts.by_link;
      moved = walk-start wan.groups closing.link items are (AreMoved wan earlier closing added c.close.new.self.standings.items)
          (record {
            gone = λ group lt. absurd (omega arith);
            left = λ group from lt. growth.each group lt;
            up = λ group from lt. subst (λ standings. IsUpOver wan closing.link closing.share group (slice_index_or standings.items group (Stopped 0))) (sym c.close.ensures.standings) (c.bring_up.ensures.up group lt);
          })
          (λ group lt unused so.
          moved-unused wan never earlier closing c.requires.keeps (omega (arith, c.requires.below)) added growth.elsewhere c.close.new.self.standings.items group lt unused so);
    }

pub move_on-requires-clause-group : goal.move_on-requires-clause-group
move_on-requires-clause-group g c =
    let wan : Wan = wan_in g.V.GroupValues.meaning c.args.self.now in
    let earlier : List Closing = closings_in c.args.self.now in
    let closing : Closing = c.args.closing in
    let parts = c.bring_up.ensures.parts in
    let added : ℕ → ℕ → ℕ = growth_added c.close.new.self in
    let items : List ℕ = c.on-group-items.result.now in
    let are : AreGroupsOn wan.groups closing.link items = subst (λ groups. AreGroupsOn groups closing.link items) (parts.by_link ∙ c.requires.front.listed) c.on-group-items.ensures in
    let never : NeverFalls wan = never_falls _ _ _ c.requires.front.growth.known in
    omega (arith, are.ascending.below c.loop-group.group-index c.loop-group-test.true, ap length c.loop-group.invariant.network.plan)

pub move_on-requires-clause-placed : goal.move_on-requires-clause-placed
move_on-requires-clause-placed g c =
    let wan : Wan = wan_in g.V.GroupValues.meaning c.args.self.now in
    let earlier : List Closing = closings_in c.args.self.now in
    let closing : Closing = c.args.closing in
    let parts = c.bring_up.ensures.parts in
    let added : ℕ → ℕ → ℕ = growth_added c.close.new.self in
    let items : List ℕ = c.on-group-items.result.now in
    let are : AreGroupsOn wan.groups closing.link items = subst (λ groups. AreGroupsOn groups closing.link items) (parts.by_link ∙ c.requires.front.listed) c.on-group-items.ensures in
    let never : NeverFalls wan = never_falls _ _ _ c.requires.front.growth.known in
    let i = c.loop-group.invariant in
    let at : ℕ = c.loop-group.group-index in
    let group : ℕ = slice_index items at in
    let standings : List Standing = c.loop-group.self.growth.standings.items in
    let here : AreMoved wan earlier closing added standings group =
    walk-here wan.groups closing.link items are (AreMoved wan earlier closing added standings) at c.loop-group-test.true i.moved in
    let lt : group < length wan.groups = are.ascending.below at c.loop-group-test.true in
    let standing : Standing = slice_index_or standings group (Stopped 0) in
    let before : IsHeld wan earlier added group standing = here.left group (omega arith) lt in
    subst (λ groups. IsPlaced groups group standing) (sym i.network.plan) (held-placed wan earlier added group standing before)

pub loop-group-preserved : goal.loop-group-preserved
loop-group-preserved g c =
    let wan : Wan = wan_in g.V.GroupValues.meaning c.args.self.now in
    let earlier : List Closing = closings_in c.args.self.now in
    let closing : Closing = c.args.closing in
    let parts = c.bring_up.ensures.parts in
    let added : ℕ → ℕ → ℕ = growth_added c.close.new.self in
    let items : List ℕ = c.on-group-items.result.now in
    let are : AreGroupsOn wan.groups closing.link items = subst (λ groups. AreGroupsOn groups closing.link items) (parts.by_link ∙ c.requires.front.listed) c.on-group-items.ensures in
    let never : NeverFalls wan = never_falls _ _ _ c.requires.front.growth.known in
    let growth : IsGrowthOf (g.V.GroupValues.meaning c.args.self.now.growth.values.now) wan earlier c.close.new.self.standings.items c.close.new.self.sums =
    growth-after g.V.GroupValues.meaning c.args.self.now.growth c.bring_up.new.self.growth c.close.new.self parts.growth c.close.ensures.standings c.close.ensures.sums c.bring_up.ensures.front.growth in
    let i = c.loop-group.invariant in
    let at : ℕ = c.loop-group.group-index in
    let group : ℕ = slice_index items at in
    let standings : List Standing = c.loop-group.self.growth.standings.items in
    let here : AreMoved wan earlier closing added standings group =
    walk-here wan.groups closing.link items are (AreMoved wan earlier closing added standings) at c.loop-group-test.true i.moved in
    let lt : group < length wan.groups = are.ascending.below at c.loop-group-test.true in
    let standing : Standing = slice_index_or standings group (Stopped 0) in
    let before : IsHeld wan earlier added group standing = here.left group (omega arith) lt in
    let up : IsUpOver wan closing.link closing.share group standing = here.up group (omega arith) lt in
    let under : Standing = standing_under wan.groups group (closed_links (closing ∷ earlier)) closing standing in
    let after : IsHeld wan (closing ∷ earlier) added group under =
    held-after wan never earlier closing c.requires.keeps (omega (arith, c.requires.below)) added growth.elsewhere group standing before up in
    let closings : closings_in c.loop-group.self ≡ closing ∷ earlier = ap reverse i.closings ∙ reverse_push c.args.self.now.growth.closings closing in
    let e = c.move_on.ensures in
    let found : c.move_on.result.1 ≡ under =
    e.after ∙ ap₂ (λ (groups : List PathGroups) (cs : List Closing). standing_under groups group (closed_links cs) closing standing) i.network.plan closings in
    let in_items : group < length standings = omega (arith, lt, i.each_group) in
    record {
      network = record {
        values = e.network.values ∙ i.network.values;
        topology = e.network.topology ∙ i.network.topology;
        plan = e.network.plan ∙ i.network.plan;
      };
      closings = e.closings ∙ i.closings;
      sums = e.sums ∙ i.sums;
      each_group = ap length e.standings ∙ length-set standings group c.move_on.result.1 ∙ i.each_group;
      by_link = i.by_link;
      moved = subst (λ next. AreMoved wan earlier closing added next (reached items wan.groups (at + 1))) (sym e.standings) (walk-next wan.groups closing.link items are
          (AreMoved wan earlier closing added (set standings group c.move_on.result.1)) at c.loop-group-test.true
          (record {
            gone = gone-written (IsHeld wan (closing ∷ earlier) added) standings group c.move_on.result.1 in_items here.gone
                (subst (IsHeld wan (closing ∷ earlier) added group) (sym found) after);
            left = left-written (IsHeld wan earlier added) standings group (length wan.groups) c.move_on.result.1 here.left;
            up = left-written (IsUpOver wan closing.link closing.share) standings group (length wan.groups) c.move_on.result.1 here.up;
          })
          (λ k kl unused so.
          moved-unused wan never earlier closing c.requires.keeps (omega (arith, c.requires.below)) added growth.elsewhere (set standings group c.move_on.result.1) k kl unused so));
    }

pub returns-clause-front : goal.returns-clause-front
returns-clause-front g c =
    let wan : Wan = wan_in g.V.GroupValues.meaning c.args.self.now in
    let earlier : List Closing = closings_in c.args.self.now in
    let closing : Closing = c.args.closing in
    let parts = c.bring_up.ensures.parts in
    let added : ℕ → ℕ → ℕ = growth_added c.close.new.self in
    let items : List ℕ = c.on-group-items.result.now in
    let are : AreGroupsOn wan.groups closing.link items = subst (λ groups. AreGroupsOn groups closing.link items) (parts.by_link ∙ c.requires.front.listed) c.on-group-items.ensures in
    let never : NeverFalls wan = never_falls _ _ _ c.requires.front.growth.known in
    let growth : IsGrowthOf (g.V.GroupValues.meaning c.args.self.now.growth.values.now) wan earlier c.close.new.self.standings.items c.close.new.self.sums =
    growth-after g.V.GroupValues.meaning c.args.self.now.growth c.bring_up.new.self.growth c.close.new.self parts.growth c.close.ensures.standings c.close.ensures.sums c.bring_up.ensures.front.growth in
    let m = c.requires.front in
    let i = c.loop-group.invariant in
    let all : AreMoved wan earlier closing added c.loop-group.self.growth.standings.items (length wan.groups) =
    walk-end wan.groups closing.link items are (AreMoved wan earlier closing added c.loop-group.self.growth.standings.items) c.loop-group.group-index c.loop-group-test.false i.moved in
    record {
      listed = i.by_link ∙ m.listed ∙ sym i.network.plan;
      growth = growth-along _ _ _ _ _ _ _ _ _ _ _ (ap g.V.GroupValues.meaning i.network.values) i.network.plan (ap (λ n. n.capacities) i.network.topology) (ap reverse i.closings ∙ reverse_push c.args.self.now.growth.closings closing) i.sums
          (record {
            known = m.growth.known;
            count = m.growth.count;
            order = (m.growth.order, c.requires.keeps, c.requires.below);
            summed = growth.summed;
            links = growth.links;
            elsewhere = elsewhere-after wan never earlier closing c.requires.keeps (omega (arith, c.requires.below)) added growth.elsewhere (λ group. slice_index_or c.close.new.self.standings.items group (Stopped 0)) growth.each
                (λ group lt. subst (λ standings. IsUpOver wan closing.link closing.share group (slice_index_or standings.items group (Stopped 0))) (sym c.close.ensures.standings) (c.bring_up.ensures.up group lt));
            each_group = i.each_group;
            each = λ group lt. all.gone group lt;
          });
    }
