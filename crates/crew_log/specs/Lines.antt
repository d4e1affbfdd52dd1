-- What the lines of a reader say.
use Rattle.std.specs.Prelude.{◌≡◌, ℕ, ◌≤◌, List, [], ◌∷◌, length, take}
use Rattle.bwe_specs.specs.declared.report.Report.{Report}
use Rattle.crew_log.specs.declared.log.ReadLine.{ReadLine}

-- the line is of a table that belongs to the first reports of the log, as many as its prefix
pub record IsLineOf {T : Type 0} (belongs : List Report → T → Type 0) (total_of : T → ℕ)
    (log : List Report) (line : ReadLine) : Type 0 where
  pub table : T
  pub within : line.prefix ≤ length log
  pub belongs_so : belongs (take line.prefix log) table
  pub total : line.total ≡ total_of table

-- along the lines no floor is below the prefix before, nor a prefix below its floor; the first
-- floor is at least the first number, the last prefix at most the last
abbrev pub NeverGoBack : ℕ → List ReadLine → ℕ → Type 0
NeverGoBack least [] most = least ≤ most
NeverGoBack least (line ∷ lines) most = (least ≤ line.floor) × (line.floor ≤ line.prefix)
    × NeverGoBack line.prefix lines most
