use Rattle.std.proofs.Common.{◌∙◌, ap, length}
use Rattle.link_front.proofs.Listing.{built-links}
use Rattle.link_front.proofs.by_link.GroupsByLink.of.Goals as goal

pub list_groups-requires-clause-links : goal.list_groups-requires-clause-links
list_groups-requires-clause-links c =
    built-links c.args.topology.now c.args.plan.now _ (ap length c.deref_mut.ensures.value ∙ c.in_ok-lists.ensures.count ∙ ap length c.deref.ensures.value ∙ c.in_ok-counts.ensures ∙ c.links.ensures.count) c.requires
