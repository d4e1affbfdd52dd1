use Rattle.std.proofs.Common.{◌≡◌, map}
use Rattle.bwe_specs.specs.Reports.{demand_after, numbers}
use Rattle.bwe_protocol.proofs.echo.EchoMaker.limits.Given as goal

abbrev pub invariant-loop-task : goal.invariant-loop-task
invariant-loop-task l = l.limits.items ≡ map (demand_after l.self.book.reports) (numbers l.task)
