use Rattle.std.proofs.Common.{ℕ, List, subst}
use Rattle.link_front.specs.ByLink.{AreGroupsOn}
use Rattle.link_front.specs.Front.{wan_in}
use Rattle.closing_walk.proofs.known.load_by.Goals as goal

pub ask-requires-clause-group : goal.ask-requires-clause-group
ask-requires-clause-group g c =
    let items : List ℕ = c.on-group-items.result.now in
    let are : AreGroupsOn (wan_in g.V.GroupValues.meaning c.args.front.now).groups c.args.link items = subst (λ groups. AreGroupsOn groups c.args.link items) c.requires.front.listed c.on-group-items.ensures in
    are.ascending.below c.loop-group.group-index c.loop-group-test.true
