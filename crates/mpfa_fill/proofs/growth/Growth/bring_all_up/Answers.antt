use Rattle.std.proofs.Common.{sym, ap, refl, arith, reverse, List}
use Rattle.bwe_specs.specs.declared.network.Closing.{Closing}
use Rattle.bwe_specs.specs.Filling.{Wan}
use Rattle.mpfa_fill.specs.Growth.{wan_in, closings_in, IsGrowthOf}
use Rattle.mpfa_fill.proofs.Growths.{all-up, growth-along}
use Rattle.mpfa_fill.proofs.growth.Growth.bring_all_up.Goals as goal

pub returns-clause-up : goal.returns-clause-up
returns-clause-up g c =
    let i = c.loop-group.invariant in
    let values = g.V.GroupValues.meaning c.args.self.now.values.now in
    let wan : Wan = wan_in g.V.GroupValues.meaning c.args.self.now in
    let closings : List Closing = closings_in c.args.self.now in
    let growth : IsGrowthOf values wan closings c.loop-group.self.standings.items c.loop-group.self.sums =
    growth-along _ _ _ _ _ _ _ _ _ _ _ (ap g.V.GroupValues.meaning (sym i.parts.network.values)) (sym i.parts.network.plan) (ap (λ n. n.capacities) (sym i.parts.network.topology)) (ap reverse (sym i.parts.closings)) refl i.growth in
    all-up values wan closings c.loop-group.self.standings.items c.loop-group.self.sums growth c.args.share c.requires.last c.requires.within
    (λ group lt. i.up group (omega (arith, lt, c.groups-group-end.ensures.count, c.loop-group-test.false)))
