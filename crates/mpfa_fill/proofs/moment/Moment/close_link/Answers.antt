use Rattle.std.proofs.Common.{◌≡◌, ℕ, ◌<◌, sym, ◌∙◌, ap, ap₂, refl, subst, arith, length, reverse, List, ◌∷◌, le_refl, slice_index_or}
use Rattle.std.proofs.lemmas.List.{length-set}
use Rattle.bwe_specs.specs.declared.network.Closing.{Closing}
use Rattle.bwe_specs.specs.Filling.{Wan, closed_links}
use Rattle.bwe_specs.specs.Paths.{PathGroups}
use Rattle.bwe_specs.specs.RightClosings.{amounts_at}
use Rattle.bwe_specs.specs.Values.{NeverFalls}
use Rattle.bwe_specs.proofs.Growth.{amounts_at-closed}
use Rattle.link_sums.specs.Sums.{amount_at}
use Rattle.mpfa_fill.specs.Growth.{closings_in, added_in, standing_at, IsHeld}
use Rattle.mpfa_fill.specs.Moment.{wan_in}
use Rattle.mpfa_fill.specs.Standing.{IsPlaced, standing_under}
use Rattle.mpfa_fill.specs.declared.standing.Standing.{Standing}
use Rattle.mpfa_fill.specs.declared.standing.Standing.TheVariants.{Stopped}
use Rattle.mpfa_fill.proofs.Closed.{held-after, elsewhere-after}
use Rattle.mpfa_fill.proofs.Growths.{growth-along, held-placed, up-over, wan-kept}
use Rattle.mpfa_fill.proofs.MomentLemmas.{never_falls, reverse_push, right-all-along}
use Rattle.mpfa_fill.proofs.StandingLemmas.{gone-written, left-written}
use Rattle.mpfa_fill.proofs.moment.Moment.close_link.Goals as goal

pub loop-group-init : goal.loop-group-init
loop-group-init g c =
    let m = c.requires.moment in
    let wan : Wan = wan_in g.V.GroupValues.meaning c.args.self.now in
    let closings : List Closing = closings_in c.args.self.now.growth in
    let added : ℕ → ℕ → ℕ = added_in c.args.self.now.growth in
    record {
      network = c.close.ensures.network;
      share = refl;
      closings = c.in_ok-close.ensures.closings;
      sums = c.close.ensures.sums;
      each_group = ap (λ standings. length standings.items) c.close.ensures.standings ∙ m.growth.each_group;
      gone = λ group lt. absurd (omega arith);
      left = λ group from lt. subst (λ standings. IsHeld wan closings added group (slice_index_or standings.items group (Stopped 0))) (sym c.close.ensures.standings) (m.growth.each group lt);
    }

pub move_on-requires-clause-placed : goal.move_on-requires-clause-placed
move_on-requires-clause-placed g c =
    let i = c.loop-group.invariant in
    let wan : Wan = wan_in g.V.GroupValues.meaning c.args.self.now in
    let closings : List Closing = closings_in c.args.self.now.growth in
    let added : ℕ → ℕ → ℕ = added_in c.args.self.now.growth in
    let group = c.loop-group.group in
    let lt : group < length wan.groups = omega (arith, c.groups-group-end.ensures, c.loop-group-test.true, ap length c.close.ensures.network.plan) in
    let standing : Standing = standing_at c.loop-group.self.growth group in
    subst (λ groups. IsPlaced groups group standing) (sym i.network.plan) (held-placed wan closings added group standing (i.left group (omega arith) lt))

pub loop-group-preserved : goal.loop-group-preserved
loop-group-preserved g c =
    let m = c.requires.moment in
    let i = c.loop-group.invariant in
    let e = c.move_on.ensures in
    let wan : Wan = wan_in g.V.GroupValues.meaning c.args.self.now in
    let never : NeverFalls wan = never_falls _ _ _ m.growth.known in
    let earlier : List Closing = closings_in c.args.self.now.growth in
    let closing : Closing = record { link = c.args.link; share = c.args.self.now.share } in
    let added : ℕ → ℕ → ℕ = added_in c.args.self.now.growth in
    let group = c.loop-group.group in
    let lt : group < length wan.groups = omega (arith, c.groups-group-end.ensures, c.loop-group-test.true, ap length c.close.ensures.network.plan) in
    let in_items : group < length c.loop-group.self.growth.standings.items = omega (arith, lt, i.each_group) in
    let standing : Standing = standing_at c.loop-group.self.growth group in
    let before : IsHeld wan earlier added group standing = i.left group (omega arith) lt in
    let closings : closings_in c.loop-group.self.growth ≡ closing ∷ earlier = ap reverse i.closings ∙ reverse_push c.args.self.now.growth.closings closing in
    let after : IsHeld wan (closing ∷ earlier) added group (standing_under wan.groups group (closed_links (closing ∷ earlier)) closing standing) =
    held-after wan never earlier closing m.last m.within added m.growth.elsewhere group standing before
    (up-over wan earlier added closing.share closing.link group standing m.amounts m.last m.within before) in
    let found : c.move_on.result.1 ≡ standing_under wan.groups group (closed_links (closing ∷ earlier)) closing standing =
    e.after ∙ ap₂ (λ (groups : List PathGroups) (cs : List Closing). standing_under groups group (closed_links cs) closing standing) i.network.plan closings in
    record {
      network = record {
        values = e.network.values ∙ i.network.values;
        topology = e.network.topology ∙ i.network.topology;
        plan = e.network.plan ∙ i.network.plan;
      };
      share = i.share;
      closings = e.closings ∙ i.closings;
      sums = e.sums ∙ i.sums;
      each_group = ap length e.standings ∙ length-set c.loop-group.self.growth.standings.items group c.move_on.result.1 ∙ i.each_group;
      gone = λ k kl. subst (λ items. IsHeld wan (closing ∷ earlier) added k (slice_index_or items k (Stopped 0))) (sym e.standings)
          (gone-written (IsHeld wan (closing ∷ earlier) added) c.loop-group.self.growth.standings.items group c.move_on.result.1 in_items i.gone
          (subst (IsHeld wan (closing ∷ earlier) added group) (sym found) after) k kl);
      left = λ k from kl. subst (λ items. IsHeld wan earlier added k (slice_index_or items k (Stopped 0))) (sym e.standings)
          (left-written (IsHeld wan earlier added) c.loop-group.self.growth.standings.items group (length wan.groups) c.move_on.result.1 i.left k from kl);
    }

pub returns-clause-moment : goal.returns-clause-moment
returns-clause-moment g c =
    let m = c.requires.moment in
    let i = c.loop-group.invariant in
    let meaning = g.V.GroupValues.meaning in
    let old = c.args.self.now.growth in
    let new = c.loop-group.self.growth in
    let wan : Wan = wan_in meaning c.args.self.now in
    let never : NeverFalls wan = never_falls _ _ _ m.growth.known in
    let earlier : List Closing = closings_in old in
    let closing : Closing = record { link = c.args.link; share = c.args.self.now.share } in
    let added : ℕ → ℕ → ℕ = added_in old in
    let closings : closings_in new ≡ closing ∷ earlier = ap reverse i.closings ∙ reverse_push old.closings closing in
    let held = m.growth.each in
    record {
      growth = growth-along _ _ _ _ _ _ _ _ _ _ _ (ap meaning i.network.values) i.network.plan (ap (λ n. n.capacities) i.network.topology) closings i.sums
          (record {
            known = m.growth.known;
            count = m.growth.count;
            order = (m.growth.order, c.requires.right.share_keeps, c.requires.right.below_top);
            summed = m.growth.summed;
            links = m.growth.links;
            elsewhere = elsewhere-after wan never earlier closing m.last m.within added m.growth.elsewhere (standing_at old) held
                (λ group lt. up-over wan earlier added closing.share closing.link group (standing_at old group) m.amounts m.last m.within (held group lt));
            each_group = i.each_group;
            each = λ group lt. i.gone group (omega (arith, lt, c.groups-group-end.ensures, c.loop-group-test.false, ap length c.close.ensures.network.plan));
          });
      right = right-all-along _ wan _ (closing ∷ earlier) (wan-kept meaning old new i.network) closings (m.right, c.requires.right);
      last = rw (closings, i.share) (le_refl closing.share);
      within = rw (i.share, wan-kept meaning old new i.network) m.within;
      amounts = ap (λ sums. amount_at sums.amounts) i.sums ∙ m.amounts ∙ amounts_at-closed wan closing earlier
          ∙ ap₂ (λ (w : Wan) (cs : List Closing). amounts_at w cs closing.share) (sym (wan-kept meaning old new i.network)) (sym closings)
          ∙ ap (amounts_at (wan_in meaning c.loop-group.self) (closings_in new)) (sym i.share);
    }
