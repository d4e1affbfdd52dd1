-- What the value of the maker's lock keeps.
use Rattle.std.specs.Prelude.{ℕ, ◌≡◌, ◌≤◌, ◌++◌, List, length}
use Rattle.std.specs.List.{All}
use Rattle.bwe_specs.specs.declared.report.Report.{Report}
use Rattle.bwe_specs.specs.declared.limits.TheConstants.{MAX_REPORTS}
use Rattle.bwe_specs.specs.Fit.{IsFit}
use Rattle.board_core.specs.Core.{IsAllowed}
use Rattle.board_log.specs.Plan.{NamesTables}

-- the log that was seen is what the maker has absorbed, with what waits after it; and the maker's
-- plan is the named one
pub record IsShop {T : Type 0} (absorbed : List Report → Type 0) (table_of : List Report → T)
    (plan_tasks plan_links : ℕ)
    (belongs : List Report → T → Type 0) (reporters tasks links : ℕ) (waiting seen : List Report)
    : Type 0 where
  pub taken : List Report
  pub absorbed_so : absorbed taken
  pub seen_so : seen ≡ taken ++ waiting
  pub room : length seen ≤ MAX_REPORTS
  pub allowed : All (IsAllowed reporters (IsFit tasks links)) seen
  pub names : NamesTables belongs table_of
  pub tasks_so : plan_tasks ≡ tasks
  pub links_so : plan_links ≡ links
