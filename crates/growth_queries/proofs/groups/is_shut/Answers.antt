use Rattle.std.proofs.Common.{◌∙◌, sym, ap, not, ◌||◌}
use Rattle.bwe_specs.specs.Paths.{path_group_at, uses}
use Rattle.growth_queries.proofs.Shut.{opens}
use Rattle.growth_queries.proofs.groups.is_shut.Goals as goal

pub returns-then-is_used : goal.returns-then-is_used
returns-then-is_used g c =
    opens (path_group_at c.args.growth.now.plan.now c.args.group c.args.place) c.args.growth.now.closings c.args.link c.uses_closed-is_closed.result c.uses-is_used.result c.uses_closed-is_closed.ensures (c.uses-is_used.ensures ∙ ap (λ groups. uses (path_group_at groups c.args.group c.args.place) c.args.link) c.plan.ensures)
    ∙ ap (λ u. not (u || c.uses_closed-is_closed.result)) c.if-is_used.true ∙ ap not (sym c.if-is_used.true)

pub returns-else-is_used : goal.returns-else-is_used
returns-else-is_used g c =
    opens (path_group_at c.args.growth.now.plan.now c.args.group c.args.place) c.args.growth.now.closings c.args.link c.uses_closed-is_closed.result c.uses-is_used.result c.uses_closed-is_closed.ensures (c.uses-is_used.ensures ∙ ap (λ groups. uses (path_group_at groups c.args.group c.args.place) c.args.link) c.plan.ensures)
    ∙ ap (λ u. not (u || c.uses_closed-is_closed.result)) c.if-is_used.false
