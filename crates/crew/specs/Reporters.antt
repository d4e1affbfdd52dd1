-- What the reporters of a run begin with and come to.
use Rattle.std.specs.Prelude.{ℕ, ◌≡◌, ◌<◌, ◌≤◌, List, [], Vec, Result, length, slice_index_or, OnOk, IfErr}
use Rattle.std.specs.List.{All, sum_by}
use Rattle.std.specs.declared.alloc.Global.{Global}
use Rattle.bwe_specs.specs.declared.report.Report.{Report}
use Rattle.board_log.specs.Laws.{without_places}
use Rattle.board_log.specs.Roll.{IsBy}
use Rattle.board_core.specs.Core.{IsAllowed}
use Rattle.bwe_specs.specs.Fit.{IsFit}
use Rattle.board.specs.Reporting.{Reporting}
use Rattle.board.specs.declared.refusal.ReportError.{ReportError}
use Rattle.crew_actors.specs.Reporters.{IsCutShort}

-- the script is of the pass's number and may stand in the log, and the pass has sent nothing
pub record IsReady (reporters tasks links : ℕ) (script : List Report) (pass : Reporting)
    : Type 0 where
  pub by : All (IsBy pass.number) script
  pub allowed : All (IsAllowed reporters (IsFit tasks links)) script
  pub fresh : pass.own ≡ []

-- the pass of this number is, with the script of its number
abbrev pub IsReadyAt : ℕ → ℕ → ℕ → List (Vec Report Global) → ℕ → Reporting → Type 0
IsReadyAt reporters tasks links scripts number pass = (number < length scripts)
    × ((script : Vec Report Global)
    → IsReady reporters tasks links (slice_index_or scripts number script).items pass)

-- there is a script for each pass
pub record AreReady (reporters tasks links : ℕ) (scripts : List (Vec Report Global))
    (passes : List Reporting) : Type 0 where
  pub count : length scripts ≡ length passes
  pub each : (number : ℕ) (script : Vec Report Global) (pass : Reporting) → number < length passes
      → IsReady reporters tasks links (slice_index_or scripts number script).items
      (slice_index_or passes number pass)

-- how many reports the passes have sent
abbrev pub sent_by : List Reporting → ℕ
sent_by passes = sum_by (λ pass. length pass.own) passes

-- the pass has its number still, and has sent its script: no more, and all of it where no call was
-- refused
pub record HasReported (script : List Report) (before : Reporting)
    (reported : Result (Unit {0}) ReportError) (after : Reporting) : Type 0 where
  pub number : after.number ≡ before.number
  pub own : OnOk reported (without_places after.own ≡ script)
  pub sent : length after.own ≤ length script
  pub refused : IfErr reported (IsCutShort script after)

-- the pass of this number has, with the script of its number
abbrev pub HasReportedAt : List (Vec Report Global) → ℕ → Reporting
    → Result (Unit {0}) ReportError → Reporting → Type 0
HasReportedAt scripts number before reported after = (script : Vec Report Global)
    → HasReported (slice_index_or scripts number script).items before reported after

-- each pass has, with the script of its place
pub record HaveReported (scripts : List (Vec Report Global)) (before : List Reporting)
    (reported : List (Result (Unit {0}) ReportError)) (after : List Reporting) : Type 0 where
  pub count : length after ≡ length before
  pub answered : length reported ≡ length before
  pub each : (number : ℕ) (script : Vec Report Global) (old : Reporting)
      (answer : Result (Unit {0}) ReportError) (new : Reporting) → number < length before
      → HasReported (slice_index_or scripts number script).items (slice_index_or before number old)
      (slice_index_or reported number answer) (slice_index_or after number new)
