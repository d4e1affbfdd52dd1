use Rattle.std.proofs.Common.{sym}
use Rattle.plain_table.proofs.Fitted.{after-idle, fitted-in}
use Rattle.allocator.proofs.allocator.Allocator.new.Goals as goal

pub invariant_of-result : goal.invariant_of-result
invariant_of-result c =
    rw (c.new.ensures)
    (fitted-in c.args.tree c.args.topology 0 c.args.plan c.what_holds-2.ensures.tree c.what_holds.ensures c.requires.built_on c.requires.groups)

pub returns-clause-first : goal.returns-clause-first
returns-clause-first c = rw (c.new.ensures) (after-idle c.args.tree c.args.topology c.requires.idle)

pub returns-clause-tasks : goal.returns-clause-tasks
returns-clause-tasks c =
    let fitted = fitted-in c.args.tree c.args.topology 0 c.args.plan c.what_holds-2.ensures.tree c.what_holds.ensures c.requires.built_on c.requires.groups in
    sym fitted.tasks
