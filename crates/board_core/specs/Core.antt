-- What contracts see of a core, and what each core keeps.
use Rattle.std.specs.Prelude.{◌≡◌, ℕ, ◌<◌, ◌≤◌, List, take, length, slice_set, All}
use Rattle.bwe_specs.specs.declared.report.Report.{Report}
use Rattle.bwe_specs.specs.declared.limits.TheConstants.{MAX_REPORTS}
use Rattle.board_core.specs.CoreRun.{State}

-- the maker, how many reporters there are, and the state of the run
pub record Core (M : Type 0) : Type 0 where
  pub maker : M
  pub reporters : ℕ
  pub state : State

-- the core with another floor of a reader
abbrev pub with_floor : {M : Type 0} → Core M → ℕ → ℕ → Core M
with_floor core reader floor =
    record core { state = record core.state { floors = slice_set core.state.floors reader floor } }

-- the report is of a reporter of the board, and fits
abbrev pub IsAllowed : ℕ → (Report → Type 0) → Report → Type 0
IsAllowed reporters fit report = (report.reporter < reporters) × fit report

-- the numbers of a state are in order: floor, posted, taken, length of the log
pub record IsInOrder (state : State) : Type 0 where
  pub floors : All (λ floor. floor ≤ state.posted) state.floors
  pub posted : state.posted ≤ state.taken
  pub taken : state.taken ≤ length state.log
  pub room : length state.log ≤ MAX_REPORTS

-- the maker has taken in the first reports, the table belongs to the posted ones, and each report
-- is allowed
pub record IsKept {T : Type 0} (has_absorbed : List Report → Type 0) (table_of : List Report → T)
    (is_allowed : Report → Type 0) (posted : T) (state : State) : Type 0 where
  pub order : IsInOrder state
  pub absorbed : has_absorbed (take state.taken state.log)
  pub table : posted ≡ table_of (take state.posted state.log)
  pub allowed : All is_allowed state.log
