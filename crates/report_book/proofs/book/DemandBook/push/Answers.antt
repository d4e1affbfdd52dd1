use Rattle.std.proofs.Common.{◌≡◌, ◌<◌, ◌∙◌, List, Vec, Global, ℕ, length, subst, sym, arith}
use Rattle.std.proofs.lemmas.List.{length-map}
use Rattle.bwe_specs.specs.declared.report.Report.{Report}
use Rattle.report_book.specs.declared.told.Told.{Told}
use Rattle.bwe_specs.specs.declared.limits.TheConstants.{MAX_REPORTS}
use Rattle.bwe_specs.specs.Fit.{IsInRange}
use Rattle.bwe_specs.specs.Lists.{lists_of}
use Rattle.report_book.specs.Book.{Book, AreKept, with_report, task_rows_after, link_rows_after}
use Rattle.report_book.proofs.Keeping.{AreKept-push}
use Rattle.report_book.proofs.book.DemandBook.push.Goals as goal

pub invariant_of-self-in-Ok : goal.invariant_of-self-in-Ok
invariant_of-self-in-Ok c =
    let inside = c.self.inside in
    let kept = c.self.invariant in
    let report = c.args.report in
    let book : Book = record { tasks = length inside.task_rows.items; capacities = inside.capacities.items; reports = inside.reports.items } in
    let place : c.len-place.result ≡ length inside.reports.items = omega (arith, c.len-place.ensures, inside.reports.ok.0) in
    let few : length inside.reports.items < MAX_REPORTS = omega (arith, kept.room, place, c.if-place-eq-MAX_REPORTS.false) in
    let fit : IsInRange book.tasks (length book.capacities) report.target = subst (λ (book : Book). IsInRange book.tasks (length book.capacities) report.target) (sym c.self.view_is) c.requires.fit.0 in
    let rows = lists_of inside.task_rows.items in
    let rows' = lists_of inside.link_rows.items in
    let told = AreKept-push book report.reporter report.target report.amount rows rows' few fit kept in
    let entry = λ (place : ℕ). let entry : Told = record { place = place; amount = report.amount } in entry in
    let placed = subst (λ (place : ℕ). AreKept (with_report book report) (task_rows_after report.target (entry place) rows) (link_rows_after report.target (entry place) rows')) (sym place) told in
    let tasks = subst (λ (rows : List (List Told)). AreKept (with_report book report) rows (link_rows_after report.target (entry c.len-place.result) rows')) (sym c.in-Ok.ensures.tasks) placed in
    let links = subst (AreKept (with_report book report) (lists_of c.tell.new.task_rows.items)) (sym c.in-Ok.ensures.links) tasks in
    let count : length inside.task_rows.items ≡ length c.tell.new.task_rows.items = sym links.task_rows ∙ length-map c.tell.new.task_rows.items (λ (row : Vec Told Global). row.items) in
    subst (λ (count : ℕ). AreKept (record { tasks = count; capacities = inside.capacities.items; reports = c.push.new.self.items }) (lists_of c.tell.new.task_rows.items) (lists_of c.tell.new.link_rows.items)) count
    (subst (λ (reports : List Report). AreKept (record book { reports = reports }) (lists_of c.tell.new.task_rows.items) (lists_of c.tell.new.link_rows.items)) (sym c.in_ok-push.ensures.items) links)
