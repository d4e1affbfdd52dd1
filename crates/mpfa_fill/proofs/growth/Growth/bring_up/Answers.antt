use Rattle.std.proofs.Common.{arith, List, slice_index_or}
use Rattle.bwe_specs.specs.declared.network.Closing.{Closing}
use Rattle.bwe_specs.specs.Filling.{Wan, closed_links}
use Rattle.bwe_specs.specs.Values.{NeverFalls}
use Rattle.bwe_specs.proofs.Loads.{current-open}
use Rattle.mpfa_fill.specs.declared.standing.Standing.TheVariants.{Grows, Stopped}
use Rattle.mpfa_fill.proofs.MomentLemmas.{never_falls, together}
use Rattle.mpfa_fill.proofs.StandingLemmas.{standing-read}
use Rattle.mpfa_fill.specs.Growth.{wan_in, closings_in, added_in, IsHeld}
use Rattle.mpfa_fill.proofs.Growths.{total-room, growth-up}
use Rattle.mpfa_fill.proofs.growth.Growth.bring_up.Goals as goal

pub change-requires-clause-place : goal.change-requires-clause-place
change-requires-clause-place g c =
    let m = c.requires.growth in
    let wan : Wan = wan_in g.V.GroupValues.meaning c.args.self.now in
    let closings : List Closing = closings_in c.args.self.now in
    let held = standing-read (IsHeld wan closings (added_in c.args.self.now) c.args.group) c.args.self.now.standings.items c.args.group _ c.index.result.now (Grows c.in-Grows.place c.in-Grows.value)
    (omega (arith, c.requires.group, m.each_group)) c.index.ensures c.in-Grows.is (m.each c.args.group c.requires.group) in
    (current-open _ (closed_links closings) c.in-Grows.place held.0).0

pub change-requires-clause-amount : goal.change-requires-clause-amount
change-requires-clause-amount g c =
    let m = c.requires.growth in
    let wan : Wan = wan_in g.V.GroupValues.meaning c.args.self.now in
    let closings : List Closing = closings_in c.args.self.now in
    let held = standing-read (IsHeld wan closings (added_in c.args.self.now) c.args.group) c.args.self.now.standings.items c.args.group _ c.index.result.now (Grows c.in-Grows.place c.in-Grows.value)
    (omega (arith, c.requires.group, m.each_group)) c.index.ensures c.in-Grows.is (m.each c.args.group c.requires.group) in
    omega (arith, held.2 c.args.share c.requires.last c.requires.within, c.value-now.ensures)

pub change-requires-clause-total : goal.change-requires-clause-total
change-requires-clause-total g c =
    let m = c.requires.growth in
    let wan : Wan = wan_in g.V.GroupValues.meaning c.args.self.now in
    let never : NeverFalls wan = never_falls _ _ _ m.known in
    let closings : List Closing = closings_in c.args.self.now in
    let held = standing-read (IsHeld wan closings (added_in c.args.self.now) c.args.group) c.args.self.now.standings.items c.args.group _ c.index.result.now (Grows c.in-Grows.place c.in-Grows.value)
    (omega (arith, c.requires.group, m.each_group)) c.index.ensures c.in-Grows.is (m.each c.args.group c.requires.group) in
    omega (
      arith,
      c.value-now.ensures,
      total-room wan never closings m.order (added_in c.args.self.now) m.elsewhere (together _ c.args.self.now.plan.now m.known m.count)
          (λ h hl. (slice_index_or c.args.self.now.standings.items h (Stopped 0), m.each h hl))
          c.args.group c.in-Grows.place c.in-Grows.value c.args.share c.requires.group held c.requires.last c.requires.within,
    )

pub returns-clause-growth : goal.returns-clause-growth
returns-clause-growth g c =
    let m = c.requires.growth in
    let wan : Wan = wan_in g.V.GroupValues.meaning c.args.self.now in
    let never : NeverFalls wan = never_falls _ _ _ m.known in
    let closings : List Closing = closings_in c.args.self.now in
    let held = standing-read (IsHeld wan closings (added_in c.args.self.now) c.args.group) c.args.self.now.standings.items c.args.group _ c.index.result.now (Grows c.in-Grows.place c.in-Grows.value)
    (omega (arith, c.requires.group, m.each_group)) c.index.ensures c.in-Grows.is (m.each c.args.group c.requires.group) in
    growth-up (g.V.GroupValues.meaning c.args.self.now.values.now) wan never closings c.args.self.now.standings.items c.args.self.now.sums c.change.new.sums m
    c.args.group c.in-Grows.place c.in-Grows.value c.value-now.result c.args.share c.requires.group held c.value-now.ensures c.requires.within
    c.change.ensures.summed c.change.ensures.links c.change.ensures.amount c.change.ensures.others
