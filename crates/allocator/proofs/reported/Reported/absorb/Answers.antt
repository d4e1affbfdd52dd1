use Rattle.allocator.proofs.After.{after-task, after-link}
use Rattle.allocator.proofs.reported.Reported.absorb.Goals as goal

pub returns-in-Task-clause-after : goal.returns-in-Task-clause-after
returns-in-Task-clause-after c =
    after-task c.args.self.now c.absorb_demand.new.self c.args.report c.in-Task.number c.absorb_demand.result
    c.in-Task.is (rw c.in-Task.is at c.requires.fit.0) c.absorb_demand.ensures.ok

pub returns-in-Link-clause-after : goal.returns-in-Link-clause-after
returns-in-Link-clause-after c =
    after-link c.args.self.now c.absorb_capacity.new.self c.args.report c.in-Link.number c.absorb_capacity.result
    c.in-Link.is (rw c.in-Link.is at c.requires.fit.0) c.absorb_capacity.ensures.ok
