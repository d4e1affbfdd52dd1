use Rattle.std.proofs.Common.{◌≤◌, ◌/◌, length, arith}
use Rattle.std.proofs.lemmas.Result.{err_from_is_err_and}
use Rattle.raw_document.specs.Raw.{group_view}
use Rattle.doc_passes.specs.NumbersView.{group_numbers_view}
use Rattle.threaded_passes.proofs.GroupHalves.{early_refused, late_refused, both_found}
use Rattle.threaded_passes.proofs.groups.group_numbers_on_threads.Goals as goal

pub returns-in_err-early : goal.returns-in_err-early
returns-in_err-early g c =
    let within : length c.args.groups.now / 2 ≤ length c.args.groups.now = omega arith in
    let fails = rw c.in_err-early.was at c.group_halves-early.ensures.early in
    let told = err_from_is_err_and c.from_residual.result c.from_residual.ensures.1 in
    rw (told.1, told.2)
    (early_refused c.args.links.now c.args.reporters.now group_view (length c.args.groups.now / 2) c.args.groups.now within c.in_err-early.field-0.0 fails)

pub returns-in_err-late : goal.returns-in_err-late
returns-in_err-late g c =
    let within : length c.args.groups.now / 2 ≤ length c.args.groups.now = omega arith in
    let found = rw c.in_ok-early.was at c.group_halves-early.ensures.early in
    let fails = rw c.in_err-late.was at c.group_halves-early.ensures.late in
    let told = err_from_is_err_and c.from_residual-in_err-late.result c.from_residual-in_err-late.ensures.1 in
    rw (told.1, told.2)
    (late_refused c.args.links.now c.args.reporters.now group_view (length c.args.groups.now / 2) c.args.groups.now within (group_numbers_view c.in_ok-early.early) c.in_err-late.field-0.0 found fails)

pub returns : goal.returns
returns g c =
    let within : length c.args.groups.now / 2 ≤ length c.args.groups.now = omega arith in
    let found = rw c.in_ok-early.was at c.group_halves-early.ensures.early in
    let more = rw c.in_ok-late.was at c.group_halves-early.ensures.late in
    both_found c.args.links.now c.args.reporters.now group_view (length c.args.groups.now / 2) c.args.groups.now within group_numbers_view (group_numbers_view c.in_ok-early.early) (group_numbers_view c.in_ok-late.late) c.both_group_numbers.result found more
    c.both_group_numbers.ensures.both c.both_group_numbers.ensures.refused
