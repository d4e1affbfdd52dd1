use Rattle.std.proofs.Common.{ℕ, ◌<◌, List, length, refl, sym, ◌∙◌, ap, subst, arith, inl, inr, slice_index}
use Rattle.std.proofs.lemmas.Bool.{cases_eq}
use Rattle.bwe_specs.specs.Filling.{Wan}
use Rattle.link_front.specs.ByLink.{AreGroupsOn}
use Rattle.mpfa_fill.specs.Growth.{IsUpOver}
use Rattle.mpfa_fill.specs.Growth.{standing_at as growth_standing}
use Rattle.link_front.specs.Front.{wan_in, standing_at}
use Rattle.link_front.proofs.Moving.{up-more}
use Rattle.link_front.proofs.Walks.{walk-start, walk-here, walk-next, walk-end}
use Rattle.link_front.proofs.front.Front.bring_up.Goals as goal

pub loop-group-init : goal.loop-group-init
loop-group-init g c =
    let wan : Wan = wan_in g.V.GroupValues.meaning c.args.self.now in
    let items : List ℕ = c.on-group-items.result.now in
    let are : AreGroupsOn wan.groups c.args.link items = subst (λ groups. AreGroupsOn groups c.args.link items) c.requires.front.listed c.on-group-items.ensures in
    record {
      front = c.requires.front;
      wan = refl;
      parts = record {
        growth = record { network = record { values = refl; topology = refl; plan = refl }; closings = refl };
        by_link = refl;
      };
      up = walk-start wan.groups c.args.link items are (λ count. (group : ℕ) → group < count → IsUpOver wan c.args.link c.args.share group (standing_at c.args.self.now group))
          (λ group lt. absurd (omega arith)) (λ group lt unused up. up-more wan c.args.link c.args.share (standing_at c.args.self.now) group unused up);
    }

pub bring_up_over-requires-clause-group : goal.bring_up_over-requires-clause-group
bring_up_over-requires-clause-group g c =
    let items : List ℕ = c.on-group-items.result.now in
    let are : AreGroupsOn (wan_in g.V.GroupValues.meaning c.args.self.now).groups c.args.link items = subst (λ groups. AreGroupsOn groups c.args.link items) c.requires.front.listed c.on-group-items.ensures in
    omega (arith, are.ascending.below c.loop-group.group-index c.loop-group-test.true, ap length c.loop-group.invariant.parts.growth.network.plan)

pub loop-group-preserved : goal.loop-group-preserved
loop-group-preserved g c =
    let wan : Wan = wan_in g.V.GroupValues.meaning c.args.self.now in
    let items : List ℕ = c.on-group-items.result.now in
    let at : ℕ = c.loop-group.group-index in
    let group : ℕ = slice_index items at in
    let are : AreGroupsOn wan.groups c.args.link items = subst (λ groups. AreGroupsOn groups c.args.link items) c.requires.front.listed c.on-group-items.ensures in
    let i = c.loop-group.invariant in
    let e = c.bring_up_over.ensures in
    let here =
    walk-here wan.groups c.args.link items are (λ count. (group : ℕ) → group < count → IsUpOver wan c.args.link c.args.share group (standing_at c.loop-group.self group)) at c.loop-group-test.true i.up in
    record {
      front = record { listed = i.front.listed ∙ sym e.parts.network.plan; growth = e.growth };
      wan = e.wan ∙ i.wan;
      parts = record {
        growth = record {
          network = record {
            values = e.parts.network.values ∙ i.parts.growth.network.values;
            topology = e.parts.network.topology ∙ i.parts.growth.network.topology;
            plan = e.parts.network.plan ∙ i.parts.growth.network.plan;
          };
          closings = e.parts.closings ∙ i.parts.growth.closings;
        };
        by_link = i.parts.by_link;
      };
      up = walk-next wan.groups c.args.link items are (λ count. (group : ℕ) → group < count → IsUpOver wan c.args.link c.args.share group (growth_standing c.bring_up_over.new.growth group)) at c.loop-group-test.true
          (λ k lt. elim (cases_eq k group) [
            | inl same ↦ subst (λ j. IsUpOver wan c.args.link c.args.share j (growth_standing c.bring_up_over.new.growth j)) (sym same)
                (subst (λ w. IsUpOver w c.args.link c.args.share group (growth_standing c.bring_up_over.new.growth group)) i.wan e.up)
            | inr other ↦ subst (IsUpOver wan c.args.link c.args.share k) (sym (e.others k other)) (here k (omega (arith, lt, other)))
          ])
          (λ group lt unused up. up-more wan c.args.link c.args.share (growth_standing c.bring_up_over.new.growth) group unused up);
    }

pub returns-clause-up : goal.returns-clause-up
returns-clause-up g c =
    let wan : Wan = wan_in g.V.GroupValues.meaning c.args.self.now in
    let items : List ℕ = c.on-group-items.result.now in
    let are : AreGroupsOn wan.groups c.args.link items = subst (λ groups. AreGroupsOn groups c.args.link items) c.requires.front.listed c.on-group-items.ensures in
    walk-end wan.groups c.args.link items are (λ count. (group : ℕ) → group < count → IsUpOver wan c.args.link c.args.share group (standing_at c.loop-group.self group)) c.loop-group.group-index c.loop-group-test.false c.loop-group.invariant.up
