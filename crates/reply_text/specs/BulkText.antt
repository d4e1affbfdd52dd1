-- The summary of a document's table.
use Rattle.std.specs.Prelude.{ℕ, ◌++◌, List, length, sum_by, codes, decimal}
use Rattle.bwe_specs.specs.Allocation.{Table}

-- how many groups and tasks the document has, how many closings the table has, and what its groups
-- get together
unfoldable pub bulk_text_of : ℕ → ℕ → Table → List ℕ
bulk_text_of groups tasks table =
    codes "groups " ++ decimal groups ++ codes "\n"
    ++ codes "tasks " ++ decimal tasks ++ codes "\n"
    ++ codes "closings " ++ decimal (length table.closings) ++ codes "\n"
    ++ codes "total " ++ decimal (sum_by (λ line. line.amount) table.groups) ++ codes "\n"
