use Rattle.std.proofs.Common.{◌≡◌, ◌<◌, length, [], map, get_or, arith}
use Rattle.std.proofs.lemmas.Grind.{common_steps}
use Rattle.bwe_specs.specs.Lists.{lists_of}
use Rattle.control_core.proofs.Loops.{row_fits, row_more}
use Rattle.control_core.proofs.rows.rows_in.Goals as goal

pub row_in-requires : goal.row_in-requires
row_in-requires g c =
    let inside : c.loop-row.row-index < length c.args.tasks.now = omega (arith, c.loop-row-test.true) in
    let at : c.deref.result.now ≡ get_or (lists_of c.args.tasks.now) c.loop-row.row-index [] = grind (arith, common_steps) in
    record {
      tasks = row_fits (g.T.Posted.tasks_of (g.T.Posted.frame c.args.table.now)) c.args.tasks.now c.loop-row.row-index c.deref.result.now inside at c.requires.tasks;
    }

pub loop-row-preserved : goal.loop-row-preserved
loop-row-preserved g c =
    let inside : c.loop-row.row-index < length c.args.tasks.now = omega (arith, c.loop-row-test.true) in
    let at : c.deref.result.now ≡ get_or (lists_of c.args.tasks.now) c.loop-row.row-index [] = grind (arith, common_steps) in
    row_more (λ row. map (λ task. g.T.Posted.limit_at c.args.table.now task) row) c.args.tasks.now c.loop-row.rows.items c.push.new.self.items c.in_ok-row_in.field-0 c.deref.result.now
    c.loop-row.row-index inside c.loop-row.invariant c.in_ok-push.ensures.items at c.in_ok-row_in.ensures
