use Rattle.std.proofs.Common.{subst, sym}
use Rattle.std.specs.Prelude.{All}
use Rattle.path_groups.specs.Plan.{IsPlan}
use Rattle.path_groups.specs.Parts.{IsPart}
use Rattle.path_groups.proofs.HeldPlans.{AreParts-held}
use Rattle.path_groups.proofs.plan.PathPlan.parts.Goals as goal

pub returns-clause-each : goal.returns-clause-each
returns-clause-each c =
    let plan : IsPlan c.args.self.now = subst IsPlan c.self.view_is c.self.invariant.0 in
    subst (All IsPart) (sym c.deref.ensures.value)
    (AreParts-held c.self.inside.groups.items c.args.self.now c.self.view_is plan c.self.invariant.1 c.args.group c.args.place c.index.result.now c.index-2.result.now c.requires.group c.index.ensures c.requires.place c.index-2.ensures)
