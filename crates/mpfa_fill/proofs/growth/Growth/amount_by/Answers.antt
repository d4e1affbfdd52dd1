use Rattle.std.proofs.Common.{◌≡◌, ◌+◌, ◌≤◌, arith, List, le_refl, subst, sym}
use Rattle.bwe_specs.specs.declared.network.Closing.{Closing}
use Rattle.bwe_specs.specs.Filling.{Wan, closed_links}
use Rattle.bwe_specs.specs.RightClosings.{last_share, amounts_at}
use Rattle.bwe_specs.specs.Values.{NeverFalls}
use Rattle.bwe_specs.proofs.Loads.{current-open}
use Rattle.mpfa_fill.proofs.MomentLemmas.{never_falls, together}
use Rattle.mpfa_fill.proofs.Small.{amount-small}
use Rattle.mpfa_fill.specs.Growth.{wan_in, closings_in}
use Rattle.mpfa_fill.specs.Told.{IsTold}
use Rattle.mpfa_fill.proofs.Small.{added-small}
use Rattle.mpfa_fill.proofs.Told.{told-amount}
use Rattle.mpfa_fill.proofs.growth.Growth.amount_by.Goals as goal

pub returns-clause-told : goal.returns-clause-told
returns-clause-told g c =
    let t = c.requires.term in
    let wan : Wan = wan_in g.V.GroupValues.meaning c.args.self.now in
    let amount = amounts_at wan (closings_in c.args.self.now) c.args.share c.args.term.group c.args.term.place in
    let has : amount + c.args.term.value ≡ c.args.term.amount + wan.value c.args.term.group c.args.share = omega (arith, t.has c.args.share c.requires.last c.requires.within, t.amount) in
    subst (IsTold c.args.asked amount) (sym c.saturating_sub.ensures)
    (told-amount c.args.asked amount c.args.term.value c.args.term.amount (wan.value c.args.term.group c.args.share) c.value_by-value.result.0 has c.value_by-value.ensures.told)

pub overflow_add-term : goal.overflow_add-term
overflow_add-term g c =
    let m = c.requires.growth in
    let t = c.requires.term in
    let wan : Wan = wan_in g.V.GroupValues.meaning c.args.self.now in
    let never : NeverFalls wan = never_falls _ _ _ m.known in
    let closings : List Closing = closings_in c.args.self.now in
    let inside = (current-open _ (closed_links closings) c.args.term.place t.grows).0 in
    let at_top = amount-small wan never closings m.order (together _ c.args.self.now.plan.now m.known m.count) wan.top c.args.term.group c.args.term.place (omega (arith, c.requires.last, c.requires.within)) (le_refl wan.top) t.in_range inside in
    let before = added-small c.args.self.now.plan.now c.args.self.now.sums m.summed c.args.term.group c.args.term.place t.in_range inside in
    omega (arith, before, at_top.1, t.amount, c.value_by-value.ensures.most)

pub returns-clause-small : goal.returns-clause-small
returns-clause-small g c =
    let m = c.requires.growth in
    let t = c.requires.term in
    let wan : Wan = wan_in g.V.GroupValues.meaning c.args.self.now in
    let never : NeverFalls wan = never_falls _ _ _ m.known in
    let closings : List Closing = closings_in c.args.self.now in
    let inside = (current-open _ (closed_links closings) c.args.term.place t.grows).0 in
    let after : last_share closings ≤ wan.top = omega (arith, c.requires.last, c.requires.within) in
    let at_top = amount-small wan never closings m.order (together _ c.args.self.now.plan.now m.known m.count) wan.top c.args.term.group c.args.term.place after (le_refl wan.top) t.in_range inside in
    omega (arith, c.saturating_sub.ensures, t.has wan.top after (le_refl wan.top), t.amount, c.value_by-value.ensures.most, at_top.0, at_top.1)
