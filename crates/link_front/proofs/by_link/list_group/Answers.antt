use Rattle.std.proofs.Common.{◌≡◌, arith}
use Rattle.bwe_specs.specs.Paths.{path_group_count}
use Rattle.link_front.specs.ByLink.{listed_on}
use Rattle.link_front.proofs.Listing.{listed-next}
use Rattle.link_front.proofs.by_link.list_group.Goals as goal

pub returns-clause-after : goal.returns-clause-after
returns-clause-after c =
    let end : c.loop-place.place ≡ path_group_count c.args.plan.now c.args.group = omega (arith, c.places-place-end.ensures, c.loop-place-test.false, c.loop-place.auto.place-end) in
    λ link. listed-next c.args.plan.now link c.args.group c.loop-place.place (listed_on c.loop-place.lists link) end (c.loop-place.invariant.before link)
