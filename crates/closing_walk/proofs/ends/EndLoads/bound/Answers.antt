use Rattle.std.proofs.Common.{◌≡◌, ℕ, ◌+◌, List, length, refl, sym, ◌∙◌, ap, arith, subst, add-one}
use Rattle.std.specs.Vec.{with_items}
use Rattle.std.proofs.lemmas.List.{with_items_is}
use Rattle.bwe_specs.specs.declared.network.Closing.{Closing}
use Rattle.bwe_specs.specs.Filling.{Wan}
use Rattle.link_front.specs.Front.{wan_in, closings_in}
use Rattle.closing_walk.specs.Walk.{closing_at}
use Rattle.closing_walk.specs.Ends.{AreWithin}
use Rattle.closing_walk.proofs.EndLoads.{bounded-all}
use Rattle.closing_walk.proofs.ends.EndLoads.bound.Goals as goal

pub returns-clause-bounds : goal.returns-clause-bounds
returns-clause-bounds g c =
    let wan : Wan = wan_in g.V.GroupValues.meaning c.args.front.now in
    let closings : List Closing = closings_in c.args.front.now in
    let list : List Closing = c.args.closings.now in
    let share : ℕ = (closing_at list c.args.at).share in
    let r = c.requires in
    let e = r.ends in
    let extra : List ℕ = c.add_all.new.extra in
    let is : (with_items c.args.self.now.extra extra).items ≡ extra = with_items_is c.args.self.now.extra extra (c.add_all.auto.extra ∙ c.deref_mut.ensures.len) in
    record {
      each_link = e.each_link;
      each_extra = ap length is ∙ c.add_all.ensures.each ∙ ap length c.deref_mut.ensures.value ∙ e.each_extra;
      upto = bounded-all wan closings list (share + 1) c.args.self.now _ e refl (omega (arith, r.order.keeps)) (omega (arith, r.order.below))
          (subst (λ items. AreWithin wan closings list (share + 1) items (length wan.groups)) (sym is)
          (subst (λ s. AreWithin wan closings list s extra (length wan.groups)) (sym (add-one share)) c.add_all.ensures.within));
    }
