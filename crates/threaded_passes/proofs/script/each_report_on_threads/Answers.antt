use Rattle.std.proofs.Common.{◌≤◌, ◌/◌, length, arith}
use Rattle.std.proofs.lemmas.Result.{err_from_is_err_and}
use Rattle.raw_document.specs.Raw.{report_view}
use Rattle.doc_passes.specs.Numbers.{report_numbers}
use Rattle.threaded_passes.proofs.ScriptHalves.{early_refused, late_refused, both_found}
use Rattle.threaded_passes.proofs.script.each_report_on_threads.Goals as goal

pub returns-in_err-all : goal.returns-in_err-all
returns-in_err-all g c =
    let within : length c.args.script.now / 2 ≤ length c.args.script.now = omega arith in
    let fails = rw c.in_err-all.was at c.script_halves-early.ensures.early in
    let told = err_from_is_err_and c.from_residual.result c.from_residual.ensures.1 in
    rw (told.1, told.2)
    (early_refused report_view (report_numbers c.args.links.now c.args.tasks.now c.args.reporters.now) (length c.args.script.now / 2) c.args.script.now within c.in_err-all.field-0.0 fails)

pub returns-in_err-rest : goal.returns-in_err-rest
returns-in_err-rest g c =
    let within : length c.args.script.now / 2 ≤ length c.args.script.now = omega arith in
    let found = rw c.in_ok-all.was at c.script_halves-early.ensures.early in
    let fails = rw c.in_err-rest.was at c.script_halves-early.ensures.late in
    let told = err_from_is_err_and c.from_residual-in_err-rest.result c.from_residual-in_err-rest.ensures.1 in
    rw (told.1, told.2)
    (late_refused report_view (report_numbers c.args.links.now c.args.tasks.now c.args.reporters.now) (length c.args.script.now / 2) c.args.script.now within c.in_ok-all.all.items c.in_err-rest.field-0.0 found fails)

pub returns : goal.returns
returns g c =
    let within : length c.args.script.now / 2 ≤ length c.args.script.now = omega arith in
    let found = rw c.in_ok-all.was at c.script_halves-early.ensures.early in
    let more = rw c.in_ok-rest.was at c.script_halves-early.ensures.late in
    both_found report_view (report_numbers c.args.links.now c.args.tasks.now c.args.reporters.now) (length c.args.script.now / 2) c.args.script.now within c.in_ok-all.all.items c.in_ok-rest.rest.items c.append.new.self.items found more
    c.in_ok-append.ensures.items
