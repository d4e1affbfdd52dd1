-- A row that is read of all rows.
use Rattle.std.proofs.Common.{◌≡◌, ℕ, ◌<◌, List, [], length, get_or, Vec, Global, ap, ◌∙◌, sym, arith}
use Rattle.bwe_specs.specs.Paths.{PathGroups}
use Rattle.std.proofs.lemmas.List.{get_or-map, length-map}
use Rattle.bwe_specs.specs.Lists.{lists_of}
use Rattle.mpfa_fill.specs.Rows.{AreShaped}

pub row-read : (rows : List (Vec ℕ Global)) (at : ℕ) (row : Vec ℕ Global) → at < length rows → row ≡ get_or rows at row
    → get_or (lists_of rows) at [] ≡ row.items
row-read rows at row within is =
    get_or-map (λ (row : Vec ℕ Global). row.items) rows at row [] within ∙ ap (λ (row : Vec ℕ Global). row.items) (sym is)

-- each group has its row
pub in_rows : (rows : List (Vec ℕ Global)) (groups : List PathGroups) (group : ℕ) → AreShaped groups rows → group < length groups → group < length rows
in_rows rows groups group shaped inside = omega (arith, shaped.each_group, length-map rows (λ (row : Vec ℕ Global). row.items))
