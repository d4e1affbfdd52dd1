use Rattle.std.proofs.Common.{◌+◌, ◌≤◌, List, length, ap, arith}
use Rattle.bwe_specs.specs.declared.network.Closing.{Closing}
use Rattle.plain_table.specs.Tables.{table_by}
use Rattle.allocator.proofs.Lawful.{ok-where}
use Rattle.allocator.proofs.table.make_table_by_looks.Goals as goal

pub returns-clause-turns : goal.returns-clause-turns
returns-clause-turns g c =
    ok-where c.table_of_filling.result
    (λ table. c.filling_of.new.work.turns + c.args.steps.now ≤ c.args.work.now.turns + c.filling_of.new.steps + length table.closings)
    (table_by c.args.reported.now c.args.plan.now)
    (omega (arith, c.in_ok-filling.ensures.turns, ap (λ (closings : List Closing). length closings) c.in_ok-filling.ensures.filling.closings))
    c.table_of_filling.ensures
