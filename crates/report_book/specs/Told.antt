-- What one task or one link was told, report by report.
use Rattle.std.specs.Prelude.{ℕ, ◌≡◌, ◌<◌, ◌≤◌, List, [], ◌∷◌, length, take, nat_lt, if◌then◌else◌, All}
use Rattle.std.specs.List.Sorted.{IsNonDecreasingBy}
use Rattle.bwe_specs.specs.declared.report.Report.{Report}
use Rattle.report_book.specs.declared.told.Told.{Told}

-- the amount that was told last before the place, or else the first one
abbrev pub amount_before : ℕ → List Told → ℕ → ℕ
amount_before first [] place = first
amount_before first (entry ∷ told) place =
    if nat_lt entry.place place then amount_before entry.amount told place else first

-- at each prefix of the reports, the amount that was told last is what `after` says of that prefix
pub record Tells (first : ℕ) (after : List Report → ℕ) (reports : List Report) (told : List Told)
    : Type 0 where
  pub rising : IsNonDecreasingBy (λ entry. entry.place) told
  pub within : All (λ entry. entry.place < length reports) told
  pub right : (prefix : ℕ) → prefix ≤ length reports
      → amount_before first told prefix ≡ after (take prefix reports)
