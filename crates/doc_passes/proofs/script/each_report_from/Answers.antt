use Rattle.std.proofs.Common.{arith}
use Rattle.raw_document.specs.Raw.{report_view}
use Rattle.doc_passes.specs.Numbers.{report_numbers}
use Rattle.doc_passes.proofs.EachFrom.{behind_none, each_later, each_fails, each_whole}
use Rattle.doc_passes.proofs.script.each_report_from.Goals as goal

pub returns-in-Err : goal.returns-in-Err
returns-in-Err c = each_fails report_view (report_numbers c.args.links.now c.args.tasks.now c.args.reporters.now) c.args.script.now c.loop-place.place _ c.loop-place.found.items c.in-Err.fault c.under.result _ (omega arith) c.in-Err.ensures c.under.ensures c.loop-place.invariant

pub loop-place-init : goal.loop-place-init
loop-place-init c = rw c.in_ok-found.ensures.items (behind_none _)

pub loop-place-preserved : goal.loop-place-preserved
loop-place-preserved c = rw c.in_ok-push-in-Ok.ensures.items (each_later report_view (report_numbers c.args.links.now c.args.tasks.now c.args.reporters.now) c.args.script.now c.loop-place.place _ c.loop-place.found.items c.in-Ok.numbers _ (omega arith) c.in-Ok.ensures c.loop-place.invariant)

pub returns : goal.returns
returns c = each_whole report_view (report_numbers c.args.links.now c.args.tasks.now c.args.reporters.now) c.args.script.now c.loop-place.place c.loop-place.found.items _ (omega arith) c.loop-place.invariant
