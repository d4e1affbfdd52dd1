use Rattle.std.proofs.Common.{◌≡◌, length, arith, subst}
use Rattle.link_front.specs.ByLink.{listed_on, IsListedTo}
use Rattle.link_front.proofs.Listing.{listed-all}
use Rattle.link_front.proofs.by_link.list_groups.Goals as goal

pub returns : goal.returns
returns c =
    let end : c.loop-group.group ≡ length c.args.plan.now = omega (arith, c.groups-group-end.ensures.count, c.loop-group-test.false, c.loop-group.auto.group-end) in
    λ link.
    listed-all c.args.plan.now link (listed_on c.loop-group.lists link)
    (subst (λ group. IsListedTo c.args.plan.now link group 0 (listed_on c.loop-group.lists link)) end (c.loop-group.invariant.before link))
