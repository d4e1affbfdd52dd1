use Rattle.bwe_protocol.proofs.Loops.{demand_more}
use Rattle.bwe_protocol.proofs.echo.EchoMaker.limits.Goals as goal

pub loop-task-preserved : goal.loop-task-preserved
loop-task-preserved c =
    demand_more c.args.self.now.book.reports c.loop-task.limits.items c.push.new.self.items c.demand_after.result c.loop-task.task c.len.result c.loop-task.invariant c.in_ok-push.ensures.items
    c.demand_after.ensures c.len.ensures
