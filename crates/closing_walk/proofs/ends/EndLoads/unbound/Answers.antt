use Rattle.std.proofs.Common.{ℕ, List, subst}
use Rattle.bwe_specs.specs.Filling.{Wan}
use Rattle.link_front.specs.ByLink.{AreGroupsOn}
use Rattle.link_front.specs.Front.{wan_in}
use Rattle.closing_walk.proofs.ends.EndLoads.unbound.Goals as goal

pub loop-group-init : goal.loop-group-init
loop-group-init g c = let e = c.requires.ends in record { each_link = e.each_link; each_extra = e.each_extra; rise = e.rise; below = e.below; loads = e.loads; fit = e.fit }

pub clear_group-requires-clause-group : goal.clear_group-requires-clause-group
clear_group-requires-clause-group g c =
    let wan : Wan = wan_in g.V.GroupValues.meaning c.args.front.now in
    let items : List ℕ = c.on-group-items.result.now in
    let are : AreGroupsOn wan.groups c.args.link items = subst (λ groups. AreGroupsOn groups c.args.link items) c.requires.front.listed c.on-group-items.ensures in
    are.ascending.below c.loop-group.group-index c.loop-group-test.true
