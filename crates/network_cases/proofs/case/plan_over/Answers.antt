use Rattle.std.proofs.Common.{subst}
use Rattle.bwe_specs.specs.Given.{AreInRange, groups_of}
use Rattle.network_cases.proofs.InRange.{AreGivenInRange, in_range-given}
use Rattle.network_cases.proofs.case.plan_over.Goals as goal

pub build-requires-clause-in_range : goal.build-requires-clause-in_range
build-requires-clause-in_range c =
    subst (λ links. AreInRange links (groups_of c.args.groups.items)) c.links-links.ensures.count
    (in_range-given c.links-links.result c.args.groups.items
    (subst (AreGivenInRange c.links-links.result) c.as_slice.ensures.value (c.groups_in_range.ensures.0 c.if-not-groups_in_range.false)))
