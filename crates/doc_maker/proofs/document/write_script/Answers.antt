use Rattle.std.proofs.Common.{◌≡◌, map, ap, arith}
use Rattle.json.specs.Token.{begin_array}
use Rattle.bwe_specs.specs.Reports.{numbers}
use Rattle.doc_maker.specs.Layout.{report_value}
use Rattle.doc_maker.specs.Made.{made_report}
use Rattle.doc_maker.specs.Writing.{each_tokens}
use Rattle.doc_maker.proofs.Lists.{wrote, added_as, list_done, one_more}
use Rattle.doc_maker.proofs.document.write_script.Goals as goal

pub loop-task-preserved : goal.loop-task-preserved
loop-task-preserved c = one_more report_value (made_report c.args.size.now) c.begin_array.new.self c.loop-task.out c.write_report.new.out c.loop-task.task c.loop-task.invariant c.in_ok-write_report.ensures

pub returns : goal.returns
returns c =
    let end : c.loop-task.task ≡ c.args.size.now.tasks = omega (arith, c.tasks-task-end.ensures.tasks) in
    list_done report_value c.end_array.result c.args.out.now c.begin_array.new.self c.loop-task.out c.end_array.new.self (map (made_report c.args.size.now) (numbers c.args.size.now.tasks))
    (wrote c.args.out.now c.begin_array.new.self begin_array c.in_ok-begin_array.ensures)
    (added_as c.begin_array.new.self c.loop-task.out _ _ (ap (λ n. each_tokens report_value (map (made_report c.args.size.now) (numbers n))) end) c.loop-task.invariant)
    c.end_array.ensures
