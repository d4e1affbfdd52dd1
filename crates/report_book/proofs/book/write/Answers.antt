use Rattle.std.proofs.Common.{◌++◌, ◌∷◌, [], Vec, Global, List, slice_set, sym, ◌∙◌, ap}
use Rattle.std.proofs.lemmas.List.{map-set}
use Rattle.report_book.specs.declared.told.Told.{Told}
use Rattle.bwe_specs.specs.Lists.{lists_of}
use Rattle.report_book.proofs.Rows.{row_at-read, rows_of-same, on_err}
use Rattle.report_book.proofs.book.write.Goals as goal

pub returns-in_err-write_last-clause-refused : goal.returns-in_err-write_last-clause-refused
returns-in_err-write_last-clause-refused c =
    let rows = c.args.rows.now.items in
    let row = c.index_mut-row.result.now in
    on_err c.from_residual.result
    (rows_of-same rows c.args.number c.write_last.new.row
    (c.in_err-write_last.ensures.refused ∙ sym (row_at-read rows c.args.number row c.requires.row c.index_mut-row.ensures.value)))

pub returns-clause-ok : goal.returns-clause-ok
returns-clause-ok c =
    let rows = c.args.rows.now.items in
    let row = c.index_mut-row.result.now in
    map-set (λ (row : Vec Told Global). row.items) rows c.args.number c.write_last.new.row
    ∙ ap (λ (entries : List Told). slice_set (lists_of rows) c.args.number entries)
    (c.in_ok-write_last.ensures.ok ∙ ap (λ (entries : List Told). entries ++ c.args.entry ∷ []) (sym (row_at-read rows c.args.number row c.requires.row c.index_mut-row.ensures.value)))
