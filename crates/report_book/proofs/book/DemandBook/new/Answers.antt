use Rattle.std.proofs.Common.{◌≡◌, ◌∙◌, Vec, Global, List, ℕ, subst, sym, ap, length}
use Rattle.std.proofs.lemmas.List.{length-map}
use Rattle.bwe_specs.specs.declared.report.Report.{Report}
use Rattle.report_book.specs.declared.told.Told.{Told}
use Rattle.bwe_specs.specs.Lists.{lists_of}
use Rattle.report_book.specs.Book.{AreKept}
use Rattle.report_book.proofs.Keeping.{AreKept-empty}
use Rattle.report_book.proofs.book.DemandBook.new.Goals as goal

pub invariant_of-result : goal.invariant_of-result
invariant_of-result c =
    let tasks = c.in_ok-empty_rows.field-0.items in
    let links = c.in_ok-empty_rows-2.field-0.items in
    let capacities = c.in_ok-from_slice.field-0.items in
    let items = λ (row : Vec Told Global). row.items in
    let count : length (lists_of links) ≡ length capacities =
    length-map links items ∙ c.in_ok-empty_rows-2.ensures.count ∙ sym (ap (λ (xs : List ℕ). length xs) c.in_ok-from_slice.ensures.items) in
    subst (λ (reports : List Report). AreKept (record { tasks = length tasks; capacities = capacities; reports = reports }) (lists_of tasks) (lists_of links))
    (sym c.new.ensures.items)
    (AreKept-empty (length tasks) capacities (lists_of tasks) (lists_of links) (length-map tasks items) count c.in_ok-empty_rows.ensures.empty c.in_ok-empty_rows-2.ensures.empty)
