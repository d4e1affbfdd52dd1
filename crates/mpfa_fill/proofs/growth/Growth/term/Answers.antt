use Rattle.std.proofs.Common.{◌∙◌, arith, List, refl, subst}
use Rattle.bwe_specs.specs.declared.network.Closing.{Closing}
use Rattle.bwe_specs.specs.Filling.{Wan}
use Rattle.bwe_specs.specs.Paths.{path_group_at}
use Rattle.path_groups.proofs.Parts.{IsPartOn-load}
use Rattle.mpfa_fill.specs.declared.standing.Standing.TheVariants.{Grows}
use Rattle.mpfa_fill.specs.Growth.{wan_in, closings_in, added_in, IsHeld}
use Rattle.mpfa_fill.proofs.Growths.{held-placed}
use Rattle.mpfa_fill.proofs.Small.{added-small}
use Rattle.mpfa_fill.proofs.growth.Growth.term.Goals as goal

pub amount-amount-requires-clause-place : goal.amount-amount-requires-clause-place
amount-amount-requires-clause-place g c =
    let wan : Wan = wan_in g.V.GroupValues.meaning c.args.self.now in
    let closings : List Closing = closings_in c.args.self.now in
    let held = subst (IsHeld wan closings (added_in c.args.self.now) c.args.group) c.requires.grows (c.requires.growth.each c.args.group c.requires.group) in
    held-placed wan closings (added_in c.args.self.now) c.args.group (Grows c.args.place c.args.value) held

pub load-requires-clause-amount : goal.load-requires-clause-amount
load-requires-clause-amount g c =
    let wan : Wan = wan_in g.V.GroupValues.meaning c.args.self.now in
    let closings : List Closing = closings_in c.args.self.now in
    let held = subst (IsHeld wan closings (added_in c.args.self.now) c.args.group) c.requires.grows (c.requires.growth.each c.args.group c.requires.group) in
    let inside = held-placed wan closings (added_in c.args.self.now) c.args.group (Grows c.args.place c.args.value) held in
    omega (arith, c.amount-amount.ensures, added-small c.args.self.now.plan.now c.args.self.now.sums c.requires.growth.summed c.args.group c.args.place c.requires.group inside)

pub returns : goal.returns
returns g c =
    let wan : Wan = wan_in g.V.GroupValues.meaning c.args.self.now in
    let closings : List Closing = closings_in c.args.self.now in
    let held = subst (IsHeld wan closings (added_in c.args.self.now) c.args.group) c.requires.grows (c.requires.growth.each c.args.group c.requires.group) in
    record {
      group_is = refl;
      in_range = c.requires.group;
      grows = held.0;
      amount = c.amount-amount.ensures;
      has = held.2;
      part = c.requires.part;
      held = c.load.ensures.load ∙ IsPartOn-load (path_group_at c.args.self.now.plan.now c.args.group c.args.place) c.args.part.link c.amount-amount.result c.args.part c.requires.part;
      known = c.requires.known;
    }
