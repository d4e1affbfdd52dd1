use Rattle.std.proofs.Common.{◌<◌, List, sym, ◌∙◌, subst}
use Rattle.bwe_specs.specs.declared.network.Closing.{Closing}
use Rattle.bwe_specs.specs.Paths.{path_group_count}
use Rattle.bwe_specs.specs.Filling.{Wan, closed_links}
use Rattle.bwe_specs.proofs.Loads.{current-open}
use Rattle.mpfa_fill.specs.Growth.{wan_in, closings_in, added_in, IsHeld}
use Rattle.growth_queries.proofs.groups.bring_up_over.Goals as goal

pub uses-requires-clause-place : goal.uses-requires-clause-place
uses-requires-clause-place g c =
    let wan : Wan = wan_in g.V.GroupValues.meaning c.args.growth.now in
    let closings : List Closing = closings_in c.args.growth.now in
    let held = subst (IsHeld wan closings (added_in c.args.growth.now) c.args.group) (sym c.standing.ensures ∙ c.in-Grows.is) (c.requires.growth.each c.args.group c.requires.group) in
    subst (λ groups. c.in-Grows.place < path_group_count groups c.args.group) (sym c.plan.ensures)
    (current-open _ (closed_links closings) c.in-Grows.place held.0).0
