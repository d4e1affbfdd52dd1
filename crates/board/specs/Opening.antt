-- What a board is opened from.
use Rattle.std.specs.Prelude.{ℕ, ◌≡◌, ◌≤◌, List}
use Rattle.atomic_table.specs.Seated.{TableId}
use Rattle.bwe_specs.specs.declared.report.Report.{Report}
use Rattle.bwe_specs.specs.declared.limits.TheConstants.{MAX_READERS, MAX_REPORTERS}
use Rattle.board_log.specs.History.{HistoryId}
use Rattle.board_log.specs.Plan.{NamesTables}

-- the identities of the bases, and for how many readers they are
pub record Opening : Type 0 where
  pub book : HistoryId
  pub table : TableId
  pub readers : ℕ

-- the maker has absorbed nothing, its plan is the named one, and the reporters and readers are not
-- too many
pub record IsOpening {T : Type 0} (absorbed_none : Type 0) (table_of : List Report → T)
    (plan_tasks plan_links : ℕ)
    (belongs : List Report → T → Type 0) (named_reporters tasks links reporters readers : ℕ)
    : Type 0 where
  pub absorbed : absorbed_none
  pub names : NamesTables belongs table_of
  pub tasks_so : plan_tasks ≡ tasks
  pub links_so : plan_links ≡ links
  pub reporters_so : reporters ≡ named_reporters
  pub few_reporters : reporters ≤ MAX_REPORTERS
  pub some_readers : 1 ≤ readers
  pub few_readers : readers ≤ MAX_READERS
