-- The steps on the locked state, by Core run.
use Rattle.std.specs.Prelude.{ℕ, ◌≡◌, ◌⊎◌, List, Ok, Err, Result, length}
use Rattle.bwe_specs.specs.declared.report.Report.{Report}
use Rattle.board_core.specs.declared.event.CoreEvent.{CoreEvent}
use Rattle.board_core.specs.declared.event.CoreEvent.TheVariants as event
use Rattle.board_core.specs.declared.event.CoreAnswer.{CoreAnswer}
use Rattle.board_core.specs.declared.event.CoreAnswer.TheVariants.{Placed, Posted}
use Rattle.board_core.specs.declared.event.CoreError.{CoreError}
use Rattle.board_core.specs.declared.event.CoreError.TheVariants as core_error
use Rattle.board_core.specs.CoreRun.{State, Steps, state_after}
use Rattle.board.specs.declared.refusal.ReportError.{ReportError}
use Rattle.board.specs.declared.refusal.ReportError.TheVariants.{Full, OutOfMemory}
use Rattle.board.specs.Standing.{Standing}

-- the locked state as a state of Core run: what is taken is what is posted. The readers' floors are
-- not behind the lock
abbrev pub core_state : Standing → List ℕ → State
core_state standing floors =
    record {
      log = standing.log;
      posted = standing.posted;
      taken = standing.posted;
      floors = floors;
    }

-- a step on the locked state is this event of Core run, whatever the floors are, and has its answer
abbrev pub IsEvent : Standing → CoreEvent → Result CoreAnswer CoreError → Standing → Type 0
IsEvent old event answer new = (total : List Report → ℕ) (floors : List ℕ)
    → Steps total (core_state old floors) event answer (core_state new floors)

-- the event Report. `OutOfMemory` leaves the state as it was
abbrev pub IsReportStep : Standing → ℕ → List Report → Result ℕ ReportError → Standing → Type 0
IsReportStep old reporter piece (Ok first) new =
    IsEvent old (event.Report reporter piece) (Ok (Placed first)) new
IsReportStep old reporter piece (Err (Full held)) new =
    IsEvent old (event.Report reporter piece) (Err (core_error.Full held)) new
IsReportStep old reporter piece (Err OutOfMemory) new = new ≡ old

-- the event Post twice: of the table that waits, or of the posted one where none waits; and then of
-- a table of so many reports
abbrev pub ArePostSteps : Standing → ℕ → ℕ → Standing → Type 0
ArePostSteps old covers prefix new = (total : List Report → ℕ) (floors : List ℕ)
    → Steps total (core_state old floors) (event.Post old.pending) (Ok (Posted old.pending))
    (state_after (core_state old floors) (event.Post old.pending))
    × Steps total (state_after (core_state old floors) (event.Post old.pending)) (event.Post covers)
    (Ok (Posted prefix)) (core_state new floors)

-- the two posts of a table of the whole log
abbrev pub ArePostStepsOfAll : Standing → Standing → Type 0
ArePostStepsOfAll old new = ArePostSteps old (length old.log) (length old.log) new

-- memory ran out at the first of the two posts, or at the second
abbrev pub IsPostRefused : Standing → ℕ → Standing → Type 0
IsPostRefused old covers new = (total : List Report → ℕ) (floors : List ℕ)
    → Steps total (core_state old floors) (event.Post old.pending) (Err core_error.OutOfMemory)
    (core_state new floors)
    ⊎ (Steps total (core_state old floors) (event.Post old.pending) (Ok (Posted old.pending))
    (state_after (core_state old floors) (event.Post old.pending))
    × Steps total (state_after (core_state old floors) (event.Post old.pending))
    (event.Post covers) (Err core_error.OutOfMemory) (core_state new floors))
