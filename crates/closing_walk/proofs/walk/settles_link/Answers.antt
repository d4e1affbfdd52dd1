use Rattle.std.proofs.Common.{ℕ, ◌+◌, ◌≤◌, ◌∙◌, sym, arith, List}
use Rattle.bwe_specs.specs.declared.network.Closing.{Closing}
use Rattle.bwe_specs.specs.Filling.{Wan}
use Rattle.mpfa_fill.proofs.MomentLemmas.{never_falls}
use Rattle.link_front.specs.Front.{wan_in, closings_in}
use Rattle.closing_walk.specs.Walk.{from_at}
use Rattle.closing_walk.proofs.Settling.{has-fit, no-fit, settles-one}
use Rattle.closing_walk.proofs.walk.settles_link.Goals as goal

pub returns-clause-settles : goal.returns-clause-settles
returns-clause-settles g c = λ _.
    let wan : Wan = wan_in g.V.GroupValues.meaning c.args.front.now in
    let closings : List Closing = closings_in c.args.front.now in
    let froms : List ℕ = c.args.froms.now in
    let owing = c.requires.owing in
    let le : from_at froms c.args.link ≤ c.args.at = omega (arith, c.if-from-at.false) in
    settles-one wan (never_falls _ _ _ c.requires.front.growth.known) closings c.args.closings.now c.args.at c.requires.order froms c.args.link (omega (arith, c.requires.link, owing.each_link)) owing
    (has-fit wan (never_falls _ _ _ c.requires.front.growth.known) closings c.args.closings.now c.args.at c.requires.order c.args.link (from_at froms c.args.link) c.owed-share.result
    (owing.owes c.args.link c.requires.link le) le c.owed-share.ensures.reaches c.owed-share.ensures.within
    (sym c.in_ok-is_over_by.ensures.over ∙ c.if-branch.false))
    (c.args.at + 1) (omega arith)

pub returns-then-branch-clause-wrong : goal.returns-then-branch-clause-wrong
returns-then-branch-clause-wrong g c = λ _ right.
    let wan : Wan = wan_in g.V.GroupValues.meaning c.args.front.now in
    let closings : List Closing = closings_in c.args.front.now in
    let froms : List ℕ = c.args.froms.now in
    let owing = c.requires.owing in
    let le : from_at froms c.args.link ≤ c.args.at = omega (arith, c.if-from-at.false) in
    no-fit wan (never_falls _ _ _ c.requires.front.growth.known) closings c.args.closings.now c.args.at c.requires.order c.args.link (from_at froms c.args.link) c.owed-share.result c.requires.link
    (owing.fits c.args.link c.requires.link le) c.owed-share.ensures.needed c.owed-share.ensures.last
    (sym c.in_ok-is_over_by.ensures.over ∙ c.if-branch.true) right
