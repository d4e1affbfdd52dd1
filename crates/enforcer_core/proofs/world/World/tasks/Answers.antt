use Rattle.std.proofs.Common.{◌≡◌, ◌<◌, length, [], get_or, arith}
use Rattle.std.proofs.lemmas.Grind.{common_steps}
use Rattle.bwe_specs.specs.Lists.{lists_of}
use Rattle.enforcer_core.proofs.Whole.{row_fits}
use Rattle.enforcer_core.proofs.world.World.tasks.Goals as goal

pub returns-clause-fit : goal.returns-clause-fit
returns-clause-fit g c =
    let is : c.as_slice.result.now ≡ get_or (lists_of c.self.inside.tasks.items) c.args.region [] = grind (arith, common_steps) in
    let inside : c.args.region < length c.self.inside.tasks.items = grind (arith, common_steps) in
    rw (← c.self.view_is) (row_fits (g.T.Posted.tasks_of (g.T.Posted.frame c.self.inside.centre.posted)) c.self.inside.tasks.items c.args.region c.as_slice.result.now is inside c.self.invariant.tasks)
