use Rattle.std.proofs.Common.{◌≡◌, ◌<◌, ◌≤◌, List, length, take, sym, ◌∙◌, ap, subst}
use Rattle.std.specs.List.Sorted.{IsNonDecreasingBy}
use Rattle.bwe_specs.specs.Reports.{demand_after}
use Rattle.report_book.specs.declared.told.Told.{Told}
use Rattle.report_book.specs.Told.{amount_before}
use Rattle.bwe_specs.specs.Lists.{lists_of}
use Rattle.report_book.specs.Book.{Book, row_at}
use Rattle.report_book.proofs.Rows.{row_at-read}
use Rattle.report_book.proofs.book.DemandBook.demand_after.Goals as goal
use Rattle.report_book.proofs.book.DemandBook.demand_after.Goals.{After-as_slice}

-- the slice that is looked up is the task's row
row : (c : After-as_slice) → c.as_slice.result.now ≡ row_at (lists_of c.self.inside.task_rows.items) c.args.task
row c =
    let inside : c.args.task < length c.self.inside.task_rows.items = subst (λ (book : Book). c.args.task < book.tasks) (sym c.self.view_is) c.requires.task in
    c.as_slice.ensures.value ∙ sym (row_at-read c.self.inside.task_rows.items c.args.task c.index.result.now inside c.index.ensures)

pub last_before-requires : goal.last_before-requires
last_before-requires c = record {
  rising = subst (IsNonDecreasingBy (λ (entry : Told). entry.place)) (sym (row c)) (c.self.invariant.demands c.args.task (subst (λ (book : Book). c.args.task < book.tasks) (sym c.self.view_is) c.requires.task)).rising;
}

pub returns : goal.returns
returns c =
    let task = c.args.task in
    let prefix = c.args.prefix in
    let tells = c.self.invariant.demands task (subst (λ (book : Book). task < book.tasks) (sym c.self.view_is) c.requires.task) in
    c.last_before.ensures
    ∙ ap (λ (told : List Told). amount_before 0 told prefix) (row (goal.at.returns c).After-as_slice)
    ∙ tells.right prefix (subst (λ (book : Book). prefix ≤ length book.reports) (sym c.self.view_is) c.requires.prefix)
    ∙ ap (λ (book : Book). demand_after (take prefix book.reports) task) c.self.view_is
