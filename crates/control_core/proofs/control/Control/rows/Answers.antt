use Rattle.std.proofs.Common.{ap}
use Rattle.std.proofs.lemmas.Result.{IfOk-weaker}
use Rattle.bwe_specs.specs.Lists.{lists_of}
use Rattle.control_core.specs.World.{reports_of}
use Rattle.control_core.proofs.Loops.{rows_same}
use Rattle.control_core.proofs.control.Control.rows.Goals as goal

pub returns-clause-rows : goal.returns-clause-rows
returns-clause-rows g c =
    let reports = reports_of c.self.inside.reports.items in
    let other = g.M.Maker.table_of (g.M.Maker.plan c.self.inside.maker) reports in
    rw (← c.self.view_is)
    (IfOk-weaker c.rows_in.result _ _
    (λ rows is. rows_same g.M.Table.Posted.limit_at c.in_ok-table.table other (lists_of rows.items) (lists_of c.as_slice.result.now) (lists_of c.self.inside.tasks.items)
    (c.in_ok-table.ensures.table reports c.self.invariant.absorbed) (ap lists_of c.as_slice.ensures.value) is)
    c.rows_in.ensures)
