use Rattle.std.proofs.Common.{arith, subst}
use Rattle.path_groups.specs.Plan.{IsPlan}
use Rattle.path_groups.proofs.HeldPlans.{length_row}
use Rattle.path_groups.proofs.plan.PathPlan.places.Goals as goal

-- a group has at most 16 path groups
pub overflow_cast-result : goal.overflow_cast-result
overflow_cast-result c =
    let plan : IsPlan c.args.self.now = subst IsPlan c.self.view_is c.self.invariant.0 in
    let few = plan.few_places c.args.group c.requires in
    let is = length_row c.self.inside.groups.items c.args.self.now c.self.view_is c.args.group c.index.result.now c.requires c.index.ensures in
    omega (arith, few, is, c.len.ensures, c.index.result.now.ok.0)
