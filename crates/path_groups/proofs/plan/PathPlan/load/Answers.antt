use Rattle.std.proofs.Common.{◌∙◌, sym}
use Rattle.bwe_specs.specs.Paths.{path_group_at}
use Rattle.bwe_specs.proofs.Loads.{load_on-unused}
use Rattle.path_groups.proofs.Parts.{IsPartOn-load}
use Rattle.path_groups.proofs.plan.PathPlan.load.Goals as goal

pub returns-in-Some-clause-load : goal.returns-in-Some-clause-load
returns-in-Some-clause-load c =
    c.load.ensures.load ∙ IsPartOn-load (path_group_at c.args.self.now c.args.group c.args.place) c.args.link c.args.amount c.in-Some.part c.in-Some.ensures.part

pub returns-in-None-clause-load : goal.returns-in-None-clause-load
returns-in-None-clause-load c = sym (load_on-unused (path_group_at c.args.self.now c.args.group c.args.place) c.args.link c.args.amount c.in-None.ensures.part)
