use Rattle.std.proofs.Common.{◌≡◌, ◌<◌, ◌≤◌, ℕ, List, Vec, Global, slice_index, length, take, sym, ◌∙◌, ap, subst, arith}
use Rattle.std.specs.List.Sorted.{IsNonDecreasingBy}
use Rattle.std.proofs.lemmas.List.{length-map, get_or_read}
use Rattle.bwe_specs.specs.Reports.{capacity_after}
use Rattle.report_book.specs.declared.told.Told.{Told}
use Rattle.report_book.specs.Told.{amount_before}
use Rattle.bwe_specs.specs.Lists.{lists_of}
use Rattle.report_book.specs.Book.{Book, row_at}
use Rattle.report_book.proofs.Rows.{row_at-read}
use Rattle.report_book.proofs.book.DemandBook.capacity_after.Goals as goal
use Rattle.report_book.proofs.book.DemandBook.capacity_after.Goals.{After-as_slice}

-- the slice that is looked up is the link's row
row : (c : After-as_slice) → c.as_slice.result.now ≡ row_at (lists_of c.self.inside.link_rows.items) c.args.link
row c =
    let known : c.args.link < length c.self.inside.capacities.items = subst (λ (book : Book). c.args.link < length book.capacities) (sym c.self.view_is) c.requires.link in
    let inside : c.args.link < length c.self.inside.link_rows.items = omega (arith, known, c.self.invariant.link_rows, length-map c.self.inside.link_rows.items (λ (row : Vec Told Global). row.items)) in
    c.as_slice.ensures.value ∙ sym (row_at-read c.self.inside.link_rows.items c.args.link c.index.result.now inside c.index.ensures)

pub last_before-requires : goal.last_before-requires
last_before-requires c = record {
  rising = subst (IsNonDecreasingBy (λ (entry : Told). entry.place)) (sym (row c)) (c.self.invariant.capacities c.args.link (subst (λ (book : Book). c.args.link < length book.capacities) (sym c.self.view_is) c.requires.link)).rising;
}

pub returns : goal.returns
returns c =
    let link = c.args.link in
    let prefix = c.args.prefix in
    let first : c.index-first.result.now ≡ slice_index c.self.inside.capacities.items link =
    get_or_read c.self.inside.capacities.items link c.index-first.result.now (subst (λ (book : Book). link < length book.capacities) (sym c.self.view_is) c.requires.link) c.index-first.ensures 0 in
    let tells = c.self.invariant.capacities link (subst (λ (book : Book). link < length book.capacities) (sym c.self.view_is) c.requires.link) in
    c.last_before.ensures
    ∙ ap (λ (told : List Told). amount_before c.index-first.result.now told prefix) (row (goal.at.returns c).After-as_slice)
    ∙ ap (λ (first : ℕ). amount_before first (row_at (lists_of c.self.inside.link_rows.items) link) prefix) first
    ∙ tells.right prefix (subst (λ (book : Book). prefix ≤ length book.reports) (sym c.self.view_is) c.requires.prefix)
    ∙ ap (λ (book : Book). capacity_after book.capacities (take prefix book.reports) link) c.self.view_is
