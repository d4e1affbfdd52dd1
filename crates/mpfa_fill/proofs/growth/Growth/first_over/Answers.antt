use Rattle.mpfa_fill.proofs.growth.Growth.first_over.Goals as goal

pub returns : goal.returns
returns g c = c.first_over.ensures.of_plan c.args.self.now.plan.now c.requires.growth.summed
