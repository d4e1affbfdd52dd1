-- What the published pair keeps.
use Rattle.std.specs.Prelude.{ℕ, ◌≡◌, ◌≤◌, List, length, take}
use Rattle.std.specs.List.{All}
use Rattle.bwe_specs.specs.declared.report.Report.{Report}
use Rattle.bwe_specs.specs.Fit.{IsFit}
use Rattle.board_core.specs.Core.{IsAllowed}
use Rattle.board_log.specs.Plan.{AreOfOnePlan}

-- the log is the one that is known, the table belongs to its first reports and has this total, and
-- each report is allowed
pub record IsPair {T F : Type 0} (covers total_of : T → ℕ) (frame : T → F) (tasks_of : F → ℕ)
    (belongs : List Report → T → Type 0) (reporters tasks links : ℕ)
    (known log : List Report) (table : T) (total : ℕ) : Type 0 where
  pub known_so : known ≡ log
  pub within : covers table ≤ length log
  pub belongs_so : belongs (take (covers table) log) table
  pub allowed : All (IsAllowed reporters (IsFit tasks links)) log
  pub one_plan : AreOfOnePlan frame tasks_of belongs tasks
  pub total_so : total ≡ total_of table

-- the log is the one that is known, and the table belongs to its first reports and has this total
pub record IsNews {T : Type 0} (covers total_of : T → ℕ) (belongs : List Report → T → Type 0)
    (reporters tasks links : ℕ) (log known : List Report) (table : T) (total : ℕ) : Type 0 where
  pub known_so : log ≡ known
  pub within : covers table ≤ length known
  pub belongs_so : belongs (take (covers table) known) table
  pub allowed : All (IsAllowed reporters (IsFit tasks links)) known
  pub total_so : total ≡ total_of table
