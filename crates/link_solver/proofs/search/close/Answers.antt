use Rattle.std.proofs.Common.{◌≡◌, ℕ, ◌+◌, ◌*◌, ◌<◌, sym, ◌∙◌, ap, ap₂, refl, subst, arith, length, reverse, List, [], ◌∷◌, ◌++◌, set, slice_index, slice_index_or}
use Rattle.std.proofs.lemmas.List.{length-set}
use Rattle.bwe_specs.specs.declared.network.Closing.{Closing}
use Rattle.bwe_specs.specs.Filling.{Wan, closed_links}
use Rattle.bwe_specs.specs.Paths.{PathGroups}
use Rattle.bwe_specs.specs.Values.{NeverFalls}
use Rattle.mpfa_fill.specs.declared.standing.Standing.{Standing}
use Rattle.mpfa_fill.specs.declared.standing.Standing.TheVariants.{Stopped}
use Rattle.link_sums.specs.Sums.{amount_at}
use Rattle.mpfa_fill.specs.Growth.{IsGrowthOf, IsHeld, IsUpOver, HasElsewhere, KeepsNetwork, added_in as growth_added, wan_in as growth_wan}
use Rattle.mpfa_fill.specs.Standing.{IsPlaced, standing_under}
use Rattle.mpfa_fill.proofs.Closed.{held-after, elsewhere-after}
use Rattle.mpfa_fill.proofs.Growths.{growth-along, held-placed, wan-kept}
use Rattle.mpfa_fill.proofs.MomentLemmas.{never_falls, reverse_push}
use Rattle.mpfa_fill.proofs.StandingLemmas.{gone-written, left-written}
use Rattle.link_front.specs.ByLink.{AreGroupsOn}
use Rattle.link_solver.specs.Dues.{due_at, Marks}
use Rattle.link_front.specs.Front.{wan_in, closings_in}
use Rattle.link_solver.proofs.Changes.{due-after, IsAhead}
use Rattle.link_solver.proofs.Closes.{marked-more, marked-start, marks-length}
use Rattle.link_front.proofs.Moving.{growth-after}
use Rattle.link_solver.proofs.Moving.{AreMoved, moved-unused, looks-start, looks-next}
use Rattle.link_solver.specs.Counts.{moves_now, links_reached}
use Rattle.link_solver.proofs.Counting.{AreCounted, counted-start, counted-unused, counted-next}
use Rattle.link_front.proofs.Walks.{reached, walk-start, walk-here, walk-next, walk-end}
use Rattle.link_solver.proofs.search.close.Goals as goal

pub loop-group-init : goal.loop-group-init
loop-group-init g c =
    let wan : Wan = wan_in g.V.GroupValues.meaning c.args.front.now in
    let earlier : List Closing = closings_in c.args.front.now in
    let closing : Closing = c.args.closing in
    let parts = c.bring_up.ensures.parts in
    let added : ℕ → ℕ → ℕ = growth_added c.close.new.self in
    let items : List ℕ = c.on-group-items.result.now in
    let are : AreGroupsOn wan.groups closing.link items = subst (λ groups. AreGroupsOn groups closing.link items) (parts.by_link ∙ c.requires.front.listed) c.on-group-items.ensures in
    let never : NeverFalls wan = never_falls _ _ _ c.requires.front.growth.known in
    let growth : IsGrowthOf (g.V.GroupValues.meaning c.args.front.now.growth.values.now) wan earlier c.close.new.self.standings.items c.close.new.self.sums =
    growth-after g.V.GroupValues.meaning c.args.front.now.growth c.bring_up.new.self.growth c.close.new.self parts.growth c.close.ensures.standings c.close.ensures.sums c.bring_up.ensures.front.growth in
    let rests : HasElsewhere wan (closing ∷ earlier) added = elsewhere-after wan never earlier closing c.requires.right.share_keeps (omega (arith, c.requires.right.below_top)) added growth.elsewhere (λ group. slice_index_or c.close.new.self.standings.items group (Stopped 0)) growth.each
    (λ group lt. subst (λ standings. IsUpOver wan closing.link closing.share group (slice_index_or standings.items group (Stopped 0))) (sym c.close.ensures.standings) (c.bring_up.ensures.up group lt)) in
    let ahead : (link : ℕ) → link < length c.args.dues.now → IsAhead wan closing (due_at c.args.dues.now link) = λ link within. record {
      from = c.requires.least link within;
      upto = (c.requires.dues.each link (omega (arith, within, c.requires.dues.each_link))).upto;
      before = (c.requires.dues.each link (omega (arith, within, c.requires.dues.each_link))).before;
    } in
    record {
      network = record {
        values = c.close.ensures.network.values ∙ parts.growth.network.values;
        topology = c.close.ensures.network.topology ∙ parts.growth.network.topology;
        plan = c.close.ensures.network.plan ∙ parts.growth.network.plan;
      };
      closings = c.in_ok-close.ensures.closings ∙ ap (λ (cs : List Closing). cs ++ closing ∷ []) parts.growth.closings;
      sums = refl;
      each_group = growth.each_group;
      by_link = parts.by_link;
      each_link = refl;
      moved = walk-start wan.groups closing.link items are (AreMoved wan earlier closing added c.args.dues.now c.close.new.self.standings.items c.args.dues.now)
          (record {
            gone = λ group lt. absurd (omega arith);
            left = λ group from lt. growth.each group lt;
            up = λ group from lt. subst (λ standings. IsUpOver wan closing.link closing.share group (slice_index_or standings.items group (Stopped 0))) (sym c.close.ensures.standings) (c.bring_up.ensures.up group lt);
            marked = λ link lt. marked-start wan earlier closing link (due_at c.args.dues.now link) (c.requires.dues.each link (omega (arith, lt, c.requires.dues.each_link)));
            looks = looks-start wan earlier closing c.args.dues.now;
          })
          (λ group lt unused so.
          moved-unused wan never earlier closing c.requires.right.share_keeps (omega (arith, c.requires.right.below_top)) added growth.elsewhere rests c.args.dues.now ahead
          c.close.new.self.standings.items c.args.dues.now group lt unused so);
      counted = walk-start wan.groups closing.link items are (AreCounted wan earlier closing (length c.args.dues.now) c.args.plays.now c.args.plays.now c.args.moves.now c.args.moves.now)
          (counted-start wan earlier closing (length c.args.dues.now) c.args.plays.now c.args.moves.now)
          (λ group lt unused so. counted-unused wan earlier closing (length c.args.dues.now) c.args.plays.now c.args.plays.now c.args.moves.now c.args.moves.now group unused so);
    }

pub move_on-before-requires-clause-group : goal.move_on-before-requires-clause-group
move_on-before-requires-clause-group g c =
    let wan : Wan = wan_in g.V.GroupValues.meaning c.args.front.now in
    let earlier : List Closing = closings_in c.args.front.now in
    let closing : Closing = c.args.closing in
    let parts = c.bring_up.ensures.parts in
    let added : ℕ → ℕ → ℕ = growth_added c.close.new.self in
    let items : List ℕ = c.on-group-items.result.now in
    let are : AreGroupsOn wan.groups closing.link items = subst (λ groups. AreGroupsOn groups closing.link items) (parts.by_link ∙ c.requires.front.listed) c.on-group-items.ensures in
    omega (arith, are.ascending.below c.loop-group.group-index c.loop-group-test.true, ap length c.loop-group.invariant.network.plan)

pub move_on-before-requires-clause-placed : goal.move_on-before-requires-clause-placed
move_on-before-requires-clause-placed g c =
    let wan : Wan = wan_in g.V.GroupValues.meaning c.args.front.now in
    let earlier : List Closing = closings_in c.args.front.now in
    let closing : Closing = c.args.closing in
    let parts = c.bring_up.ensures.parts in
    let added : ℕ → ℕ → ℕ = growth_added c.close.new.self in
    let items : List ℕ = c.on-group-items.result.now in
    let are : AreGroupsOn wan.groups closing.link items = subst (λ groups. AreGroupsOn groups closing.link items) (parts.by_link ∙ c.requires.front.listed) c.on-group-items.ensures in
    let i = c.loop-group.invariant in
    let at : ℕ = c.loop-group.group-index in
    let group : ℕ = slice_index items at in
    let standings : List Standing = c.loop-group.front.growth.standings.items in
    let here : AreMoved wan earlier closing added c.args.dues.now standings c.loop-group.dues group =
    walk-here wan.groups closing.link items are (AreMoved wan earlier closing added c.args.dues.now standings c.loop-group.dues) at c.loop-group-test.true i.moved in
    let lt : group < length wan.groups = are.ascending.below at c.loop-group-test.true in
    let standing : Standing = slice_index_or standings group (Stopped 0) in
    let before : IsHeld wan earlier added group standing = here.left group (omega arith) lt in
    subst (λ groups. IsPlaced groups group standing) (sym i.network.plan) (held-placed wan earlier added group standing before)

pub mark-requires-clause-before : goal.mark-requires-clause-before
mark-requires-clause-before g c =
    let wan : Wan = wan_in g.V.GroupValues.meaning c.args.front.now in
    let earlier : List Closing = closings_in c.args.front.now in
    let closing : Closing = c.args.closing in
    let parts = c.bring_up.ensures.parts in
    let added : ℕ → ℕ → ℕ = growth_added c.close.new.self in
    let items : List ℕ = c.on-group-items.result.now in
    let are : AreGroupsOn wan.groups closing.link items = subst (λ groups. AreGroupsOn groups closing.link items) (parts.by_link ∙ c.requires.front.listed) c.on-group-items.ensures in
    let i = c.loop-group.invariant in
    let at : ℕ = c.loop-group.group-index in
    let group : ℕ = slice_index items at in
    let standings : List Standing = c.loop-group.front.growth.standings.items in
    let here : AreMoved wan earlier closing added c.args.dues.now standings c.loop-group.dues group =
    walk-here wan.groups closing.link items are (AreMoved wan earlier closing added c.args.dues.now standings c.loop-group.dues) at c.loop-group-test.true i.moved in
    let lt : group < length wan.groups = are.ascending.below at c.loop-group-test.true in
    let standing : Standing = slice_index_or standings group (Stopped 0) in
    let before : IsHeld wan earlier added group standing = here.left group (omega arith) lt in
    let plan = c.move_on-before.ensures.network.plan ∙ c.loop-group.invariant.network.plan in
    subst (λ groups. IsPlaced groups group c.move_on-before.result.0) (sym plan)
    (subst (IsPlaced wan.groups group) (sym c.move_on-before.ensures.before) (held-placed wan earlier added group standing before))

pub mark-requires-clause-after : goal.mark-requires-clause-after
mark-requires-clause-after g c =
    let wan : Wan = wan_in g.V.GroupValues.meaning c.args.front.now in
    let earlier : List Closing = closings_in c.args.front.now in
    let closing : Closing = c.args.closing in
    let parts = c.bring_up.ensures.parts in
    let added : ℕ → ℕ → ℕ = growth_added c.close.new.self in
    let items : List ℕ = c.on-group-items.result.now in
    let are : AreGroupsOn wan.groups closing.link items = subst (λ groups. AreGroupsOn groups closing.link items) (parts.by_link ∙ c.requires.front.listed) c.on-group-items.ensures in
    let never : NeverFalls wan = never_falls _ _ _ c.requires.front.growth.known in
    let growth : IsGrowthOf (g.V.GroupValues.meaning c.args.front.now.growth.values.now) wan earlier c.close.new.self.standings.items c.close.new.self.sums =
    growth-after g.V.GroupValues.meaning c.args.front.now.growth c.bring_up.new.self.growth c.close.new.self parts.growth c.close.ensures.standings c.close.ensures.sums c.bring_up.ensures.front.growth in
    let i = c.loop-group.invariant in
    let at : ℕ = c.loop-group.group-index in
    let group : ℕ = slice_index items at in
    let standings : List Standing = c.loop-group.front.growth.standings.items in
    let here : AreMoved wan earlier closing added c.args.dues.now standings c.loop-group.dues group =
    walk-here wan.groups closing.link items are (AreMoved wan earlier closing added c.args.dues.now standings c.loop-group.dues) at c.loop-group-test.true i.moved in
    let lt : group < length wan.groups = are.ascending.below at c.loop-group-test.true in
    let standing : Standing = slice_index_or standings group (Stopped 0) in
    let before : IsHeld wan earlier added group standing = here.left group (omega arith) lt in
    let up : IsUpOver wan closing.link closing.share group standing = here.up group (omega arith) lt in
    let under : Standing = standing_under wan.groups group (closed_links (closing ∷ earlier)) closing standing in
    let after : IsHeld wan (closing ∷ earlier) added group under =
    held-after wan never earlier closing c.requires.right.share_keeps (omega (arith, c.requires.right.below_top)) added growth.elsewhere group standing before up in
    let closings : closings_in c.loop-group.front ≡ closing ∷ earlier = ap reverse i.closings ∙ reverse_push c.args.front.now.growth.closings closing in
    let found : c.move_on-before.result.1 ≡ under =
    c.move_on-before.ensures.after ∙ ap₂ (λ (groups : List PathGroups) (cs : List Closing). standing_under groups group (closed_links cs) closing standing) i.network.plan closings in
    let plan = c.move_on-before.ensures.network.plan ∙ c.loop-group.invariant.network.plan in
    subst (λ groups. IsPlaced groups group c.move_on-before.result.1) (sym plan)
    (subst (IsPlaced wan.groups group) (sym found) (held-placed wan (closing ∷ earlier) added group under after))

pub loop-group-preserved : goal.loop-group-preserved
loop-group-preserved g c =
    let wan : Wan = wan_in g.V.GroupValues.meaning c.args.front.now in
    let earlier : List Closing = closings_in c.args.front.now in
    let closing : Closing = c.args.closing in
    let parts = c.bring_up.ensures.parts in
    let added : ℕ → ℕ → ℕ = growth_added c.close.new.self in
    let items : List ℕ = c.on-group-items.result.now in
    let are : AreGroupsOn wan.groups closing.link items = subst (λ groups. AreGroupsOn groups closing.link items) (parts.by_link ∙ c.requires.front.listed) c.on-group-items.ensures in
    let never : NeverFalls wan = never_falls _ _ _ c.requires.front.growth.known in
    let growth : IsGrowthOf (g.V.GroupValues.meaning c.args.front.now.growth.values.now) wan earlier c.close.new.self.standings.items c.close.new.self.sums =
    growth-after g.V.GroupValues.meaning c.args.front.now.growth c.bring_up.new.self.growth c.close.new.self parts.growth c.close.ensures.standings c.close.ensures.sums c.bring_up.ensures.front.growth in
    let rests : HasElsewhere wan (closing ∷ earlier) added = elsewhere-after wan never earlier closing c.requires.right.share_keeps (omega (arith, c.requires.right.below_top)) added growth.elsewhere (λ group. slice_index_or c.close.new.self.standings.items group (Stopped 0)) growth.each
    (λ group lt. subst (λ standings. IsUpOver wan closing.link closing.share group (slice_index_or standings.items group (Stopped 0))) (sym c.close.ensures.standings) (c.bring_up.ensures.up group lt)) in
    let ahead : (link : ℕ) → link < length c.args.dues.now → IsAhead wan closing (due_at c.args.dues.now link) = λ link within. record {
      from = c.requires.least link within;
      upto = (c.requires.dues.each link (omega (arith, within, c.requires.dues.each_link))).upto;
      before = (c.requires.dues.each link (omega (arith, within, c.requires.dues.each_link))).before;
    } in
    let i = c.loop-group.invariant in
    let at : ℕ = c.loop-group.group-index in
    let group : ℕ = slice_index items at in
    let standings : List Standing = c.loop-group.front.growth.standings.items in
    let here : AreMoved wan earlier closing added c.args.dues.now standings c.loop-group.dues group =
    walk-here wan.groups closing.link items are (AreMoved wan earlier closing added c.args.dues.now standings c.loop-group.dues) at c.loop-group-test.true i.moved in
    let lt : group < length wan.groups = are.ascending.below at c.loop-group-test.true in
    let standing : Standing = slice_index_or standings group (Stopped 0) in
    let before : IsHeld wan earlier added group standing = here.left group (omega arith) lt in
    let up : IsUpOver wan closing.link closing.share group standing = here.up group (omega arith) lt in
    let under : Standing = standing_under wan.groups group (closed_links (closing ∷ earlier)) closing standing in
    let after : IsHeld wan (closing ∷ earlier) added group under =
    held-after wan never earlier closing c.requires.right.share_keeps (omega (arith, c.requires.right.below_top)) added growth.elsewhere group standing before up in
    let closings : closings_in c.loop-group.front ≡ closing ∷ earlier = ap reverse i.closings ∙ reverse_push c.args.front.now.growth.closings closing in
    let found : c.move_on-before.result.1 ≡ under =
    c.move_on-before.ensures.after ∙ ap₂ (λ (groups : List PathGroups) (cs : List Closing). standing_under groups group (closed_links cs) closing standing) i.network.plan closings in
    let e = c.move_on-before.ensures in
    let plan = c.move_on-before.ensures.network.plan ∙ c.loop-group.invariant.network.plan in
    let in_items : group < length standings = omega (arith, lt, i.each_group) in
    let network : KeepsNetwork c.args.front.now.growth c.move_on-before.new.self = record {
      values = e.network.values ∙ i.network.values;
      topology = e.network.topology ∙ i.network.topology;
      plan = e.network.plan ∙ i.network.plan;
    } in
    let same : growth_wan g.V.GroupValues.meaning c.move_on-before.new.self ≡ wan = wan-kept g.V.GroupValues.meaning c.args.front.now.growth c.move_on-before.new.self network in
    let sums : growth_added c.move_on-before.new.self ≡ added = ap (λ s. amount_at s.amounts) (e.sums ∙ i.sums) in
    let marks : Marks wan added group closing standing under c.loop-group.dues c.mark.new.dues =
    subst (λ w. Marks w added group closing standing under c.loop-group.dues c.mark.new.dues) same
    (subst (λ x. Marks (growth_wan g.V.GroupValues.meaning c.move_on-before.new.self) x group closing standing under c.loop-group.dues c.mark.new.dues) sums
    (subst (λ s. Marks (growth_wan g.V.GroupValues.meaning c.move_on-before.new.self) (growth_added c.move_on-before.new.self) group closing s under c.loop-group.dues c.mark.new.dues) e.before
    (subst (λ s. Marks (growth_wan g.V.GroupValues.meaning c.move_on-before.new.self) (growth_added c.move_on-before.new.self) group closing c.move_on-before.result.0 s c.loop-group.dues c.mark.new.dues) found c.mark.ensures.marks))) in
    let links : ℕ = length wan.capacities in
    let reaches : links_reached (length c.loop-group.dues) c.move_on-before.new.self.plan.now group closing c.move_on-before.result.0 c.move_on-before.result.1 ≡ links_reached links wan.groups group closing standing under =
    ap (λ n. links_reached n c.move_on-before.new.self.plan.now group closing c.move_on-before.result.0 c.move_on-before.result.1) (i.each_link ∙ c.requires.dues.each_link)
    ∙ ap (λ (groups : List PathGroups). links_reached links groups group closing c.move_on-before.result.0 c.move_on-before.result.1) plan
    ∙ ap (λ (s : Standing). links_reached links wan.groups group closing s c.move_on-before.result.1) e.before
    ∙ ap (λ (s : Standing). links_reached links wan.groups group closing standing s) found in
    let moved : moves_now c.move_on-before.new.self.plan.now group closing c.move_on-before.result.0 ≡ moves_now wan.groups group closing standing =
    ap (λ (groups : List PathGroups). moves_now groups group closing c.move_on-before.result.0) plan ∙ ap (λ (s : Standing). moves_now wan.groups group closing s) e.before in
    let counted : AreCounted wan earlier closing (length c.args.dues.now) c.args.plays.now c.loop-group.plays c.args.moves.now c.loop-group.moves group =
    walk-here wan.groups closing.link items are (AreCounted wan earlier closing (length c.args.dues.now) c.args.plays.now c.loop-group.plays c.args.moves.now c.loop-group.moves) at c.loop-group-test.true i.counted in
    record {
      network = network;
      closings = e.closings ∙ i.closings;
      sums = e.sums ∙ i.sums;
      each_group = ap length e.standings ∙ length-set standings group c.move_on-before.result.1 ∙ i.each_group;
      by_link = i.by_link;
      each_link = marks-length wan added group closing standing under c.loop-group.dues c.mark.new.dues marks ∙ i.each_link;
      moved = subst (λ next. AreMoved wan earlier closing added c.args.dues.now next c.mark.new.dues (reached items wan.groups (at + 1))) (sym e.standings) (walk-next wan.groups closing.link items are
          (AreMoved wan earlier closing added c.args.dues.now (set standings group c.move_on-before.result.1) c.mark.new.dues) at c.loop-group-test.true
          (record {
            gone = gone-written (IsHeld wan (closing ∷ earlier) added) standings group c.move_on-before.result.1 in_items here.gone
                (subst (IsHeld wan (closing ∷ earlier) added group) (sym found) after);
            left = left-written (IsHeld wan earlier added) standings group (length wan.groups) c.move_on-before.result.1 here.left;
            up = left-written (IsUpOver wan closing.link closing.share) standings group (length wan.groups) c.move_on-before.result.1 here.up;
            marked = λ link within. marked-more wan never earlier closing c.requires.right.share_keeps (omega (arith, c.requires.right.below_top)) added growth.elsewhere rests group link standing (due_at c.args.dues.now link) c.loop-group.dues c.mark.new.dues (ahead link within) before up marks (here.marked link within);
            looks = looks-next wan earlier closing group added standing c.args.dues.now c.loop-group.dues c.mark.new.dues (i.each_link ∙ c.requires.dues.each_link) before marks here.looks;
          })
          (λ k kl unused so.
          moved-unused wan never earlier closing c.requires.right.share_keeps (omega (arith, c.requires.right.below_top)) added growth.elsewhere rests c.args.dues.now ahead
          (set standings group c.move_on-before.result.1) c.mark.new.dues k kl unused so));
      counted = walk-next wan.groups closing.link items are (AreCounted wan earlier closing (length c.args.dues.now) c.args.plays.now c.mark.new.plays c.args.moves.now c.mark.new.moves) at c.loop-group-test.true
          (counted-next wan earlier closing (length c.args.dues.now) c.args.plays.now c.loop-group.plays c.mark.new.plays c.args.moves.now c.loop-group.moves c.mark.new.moves group added standing before
          (λ levels le. omega (arith, c.mark.ensures.plays levels (omega (arith, le, i.each_link)), ap (λ n. levels * n) reaches))
          (omega (arith, c.mark.ensures.moves, moved))
          counted)
          (λ k kl unused so. counted-unused wan earlier closing (length c.args.dues.now) c.args.plays.now c.mark.new.plays c.args.moves.now c.mark.new.moves k unused so);
    }

pub returns-clause-front : goal.returns-clause-front
returns-clause-front g c =
    let wan : Wan = wan_in g.V.GroupValues.meaning c.args.front.now in
    let earlier : List Closing = closings_in c.args.front.now in
    let closing : Closing = c.args.closing in
    let parts = c.bring_up.ensures.parts in
    let added : ℕ → ℕ → ℕ = growth_added c.close.new.self in
    let items : List ℕ = c.on-group-items.result.now in
    let are : AreGroupsOn wan.groups closing.link items = subst (λ groups. AreGroupsOn groups closing.link items) (parts.by_link ∙ c.requires.front.listed) c.on-group-items.ensures in
    let never : NeverFalls wan = never_falls _ _ _ c.requires.front.growth.known in
    let growth : IsGrowthOf (g.V.GroupValues.meaning c.args.front.now.growth.values.now) wan earlier c.close.new.self.standings.items c.close.new.self.sums =
    growth-after g.V.GroupValues.meaning c.args.front.now.growth c.bring_up.new.self.growth c.close.new.self parts.growth c.close.ensures.standings c.close.ensures.sums c.bring_up.ensures.front.growth in
    let m = c.requires.front in
    let i = c.loop-group.invariant in
    let all : AreMoved wan earlier closing added c.args.dues.now c.loop-group.front.growth.standings.items c.loop-group.dues (length wan.groups) =
    walk-end wan.groups closing.link items are (AreMoved wan earlier closing added c.args.dues.now c.loop-group.front.growth.standings.items c.loop-group.dues) c.loop-group.group-index c.loop-group-test.false i.moved in
    record {
      listed = i.by_link ∙ m.listed ∙ sym i.network.plan;
      growth = growth-along _ _ _ _ _ _ _ _ _ _ _ (ap g.V.GroupValues.meaning i.network.values) i.network.plan (ap (λ n. n.capacities) i.network.topology) (ap reverse i.closings ∙ reverse_push c.args.front.now.growth.closings closing) i.sums
          (record {
            known = m.growth.known;
            count = m.growth.count;
            order = (m.growth.order, c.requires.right.share_keeps, c.requires.right.below_top);
            summed = growth.summed;
            links = growth.links;
            elsewhere = elsewhere-after wan never earlier closing c.requires.right.share_keeps (omega (arith, c.requires.right.below_top)) added growth.elsewhere (λ group. slice_index_or c.close.new.self.standings.items group (Stopped 0)) growth.each
                (λ group lt. subst (λ standings. IsUpOver wan closing.link closing.share group (slice_index_or standings.items group (Stopped 0))) (sym c.close.ensures.standings) (c.bring_up.ensures.up group lt));
            each_group = i.each_group;
            each = λ group lt. all.gone group lt;
          });
    }

pub returns-clause-dues : goal.returns-clause-dues
returns-clause-dues g c =
    let wan : Wan = wan_in g.V.GroupValues.meaning c.args.front.now in
    let earlier : List Closing = closings_in c.args.front.now in
    let closing : Closing = c.args.closing in
    let parts = c.bring_up.ensures.parts in
    let added : ℕ → ℕ → ℕ = growth_added c.close.new.self in
    let items : List ℕ = c.on-group-items.result.now in
    let are : AreGroupsOn wan.groups closing.link items = subst (λ groups. AreGroupsOn groups closing.link items) (parts.by_link ∙ c.requires.front.listed) c.on-group-items.ensures in
    let i = c.loop-group.invariant in
    let never : NeverFalls wan = never_falls _ _ _ c.requires.front.growth.known in
    let all : AreMoved wan earlier closing added c.args.dues.now c.loop-group.front.growth.standings.items c.loop-group.dues (length wan.groups) =
    walk-end wan.groups closing.link items are (AreMoved wan earlier closing added c.args.dues.now c.loop-group.front.growth.standings.items c.loop-group.dues) c.loop-group.group-index c.loop-group-test.false i.moved in
    record {
      each_link = i.each_link ∙ c.requires.dues.each_link;
      each = λ link lt.
          let within : link < length c.args.dues.now = omega (arith, lt, c.requires.dues.each_link) in
          due-after wan never earlier closing link (due_at c.args.dues.now link) (due_at c.loop-group.dues link) c.requires.right.share_keeps c.requires.right.below_top
          (c.requires.least link within) (c.requires.dues.each link lt)
          (all.marked link within);
    }

pub returns-clause-ahead : goal.returns-clause-ahead
returns-clause-ahead g c =
    let wan : Wan = wan_in g.V.GroupValues.meaning c.args.front.now in
    let earlier : List Closing = closings_in c.args.front.now in
    let closing : Closing = c.args.closing in
    let parts = c.bring_up.ensures.parts in
    let added : ℕ → ℕ → ℕ = growth_added c.close.new.self in
    let items : List ℕ = c.on-group-items.result.now in
    let are : AreGroupsOn wan.groups closing.link items = subst (λ groups. AreGroupsOn groups closing.link items) (parts.by_link ∙ c.requires.front.listed) c.on-group-items.ensures in
    let i = c.loop-group.invariant in
    let all : AreMoved wan earlier closing added c.args.dues.now c.loop-group.front.growth.standings.items c.loop-group.dues (length wan.groups) =
    walk-end wan.groups closing.link items are (AreMoved wan earlier closing added c.args.dues.now c.loop-group.front.growth.standings.items c.loop-group.dues) c.loop-group.group-index c.loop-group-test.false i.moved in
    all.looks

pub returns-clause-plays : goal.returns-clause-plays
returns-clause-plays g c =
    let wan : Wan = wan_in g.V.GroupValues.meaning c.args.front.now in
    let earlier : List Closing = closings_in c.args.front.now in
    let closing : Closing = c.args.closing in
    let parts = c.bring_up.ensures.parts in
    let items : List ℕ = c.on-group-items.result.now in
    let are : AreGroupsOn wan.groups closing.link items = subst (λ groups. AreGroupsOn groups closing.link items) (parts.by_link ∙ c.requires.front.listed) c.on-group-items.ensures in
    let all : AreCounted wan earlier closing (length c.args.dues.now) c.args.plays.now c.loop-group.plays c.args.moves.now c.loop-group.moves (length wan.groups) =
    walk-end wan.groups closing.link items are (AreCounted wan earlier closing (length c.args.dues.now) c.args.plays.now c.loop-group.plays c.args.moves.now c.loop-group.moves) c.loop-group.group-index c.loop-group-test.false c.loop-group.invariant.counted in
    all.plays

pub returns-clause-moves : goal.returns-clause-moves
returns-clause-moves g c =
    let wan : Wan = wan_in g.V.GroupValues.meaning c.args.front.now in
    let earlier : List Closing = closings_in c.args.front.now in
    let closing : Closing = c.args.closing in
    let parts = c.bring_up.ensures.parts in
    let items : List ℕ = c.on-group-items.result.now in
    let are : AreGroupsOn wan.groups closing.link items = subst (λ groups. AreGroupsOn groups closing.link items) (parts.by_link ∙ c.requires.front.listed) c.on-group-items.ensures in
    let all : AreCounted wan earlier closing (length c.args.dues.now) c.args.plays.now c.loop-group.plays c.args.moves.now c.loop-group.moves (length wan.groups) =
    walk-end wan.groups closing.link items are (AreCounted wan earlier closing (length c.args.dues.now) c.args.plays.now c.loop-group.plays c.args.moves.now c.loop-group.moves) c.loop-group.group-index c.loop-group-test.false c.loop-group.invariant.counted in
    all.moves
