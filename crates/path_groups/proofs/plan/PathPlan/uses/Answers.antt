use Rattle.std.proofs.Common.{◌∙◌}
use Rattle.bwe_specs.specs.Paths.{path_group_at}
use Rattle.path_groups.proofs.Parts.{AreParts-used}
use Rattle.path_groups.proofs.plan.PathPlan.uses.Goals as goal

-- a link is used exactly where it has a part
pub returns : goal.returns
returns c = c.has_part.ensures ∙ AreParts-used (path_group_at c.args.self.now c.args.group c.args.place) c.parts.result.now c.args.link c.parts.ensures.parts
