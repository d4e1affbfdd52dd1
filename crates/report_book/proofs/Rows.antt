-- Rows as they stand in vectors.
use Rattle.std.proofs.Common.{◌≡◌, ℕ, ◌<◌, List, [], Vec, Global, length, get_or, set, Result, Ok, Err, sym, ◌∙◌, ap}
use Rattle.std.specs.Result.{OnErr}
use Rattle.std.proofs.lemmas.List.{get_or-map, map-set, set-get_or}
use Rattle.report_book.specs.declared.told.Told.{Told}
use Rattle.bwe_specs.specs.Lists.{lists_of}
use Rattle.report_book.specs.Book.{row_at}

-- what is read at a number is its row
pub row_at-read : (rows : List (Vec Told Global)) (number : ℕ) (row : Vec Told Global) → number < length rows → row ≡ get_or rows number row → row_at (lists_of rows) number ≡ row.items
row_at-read rows number row inside read = get_or-map (λ (row : Vec Told Global). row.items) rows number row [] inside ∙ sym (ap (λ (row : Vec Told Global). row.items) read)

-- a row that was written as it stood leaves the rows
pub rows_of-same : (rows : List (Vec Told Global)) (number : ℕ) (row : Vec Told Global) → row.items ≡ row_at (lists_of rows) number → lists_of (set rows number row) ≡ lists_of rows
rows_of-same rows number row same =
    map-set (λ (row : Vec Told Global). row.items) rows number row
    ∙ ap (λ (entries : List Told). set (lists_of rows) number entries) same
    ∙ set-get_or (lists_of rows) number []

pub on_err : {T E P : Type 0} (r : Result T E) → P → OnErr r P
on_err (Ok x) p = tt
on_err (Err e) p = p
