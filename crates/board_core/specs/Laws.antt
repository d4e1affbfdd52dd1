-- The law on all runs of the core.
use Rattle.std.specs.Prelude.{◌≡◌, ℕ, ◌<◌, ◌≤◌, ◌==◌, List, [], ◌∷◌, Ok, Option, Some, None, Result, length, take, if◌then◌else◌}
use Rattle.std.specs.List.{AllByRecursion, filter_map, flat_map}
use mathlib.Core.List.{IsPrefix}
use Rattle.bwe_specs.specs.declared.report.Report.{Report}
use Rattle.bwe_specs.specs.Reports.{reports_of}
use Rattle.board_core.specs.declared.event.CoreEvent.{CoreEvent}
use Rattle.board_core.specs.declared.event.CoreEvent.TheVariants as event
use Rattle.board_core.specs.declared.event.CoreAnswer.{CoreAnswer}
use Rattle.board_core.specs.declared.event.CoreAnswer.TheVariants.{Placed, Told, Seen}
use Rattle.board_core.specs.declared.event.CoreError.{CoreError}
use Rattle.board_core.specs.CoreRun.{State, first_state, Steps, IsMeant}

-- an event and its answer
pub record Turn : Type 0 where
  pub event : CoreEvent
  pub answer : Result CoreAnswer CoreError

-- the turns lead from the one state to the other
abbrev pub IsRun : (List Report → ℕ) → State → List Turn → State → Type 0
IsRun total old [] new = old ≡ new
IsRun total old (turn ∷ turns) new = (middle : State)
    × Steps total old turn.event turn.answer middle × IsRun total middle turns new

-- each event is meant for so many reporters and readers, whatever its reports tell
abbrev pub AreMeant : ℕ → ℕ → List Turn → Type 0
AreMeant reporters readers turns =
    AllByRecursion (λ turn. IsMeant reporters readers (λ report. Unit {0}) turn.event) turns

-- the prefix that the reader is answered, when it is told of a post and when it reads
abbrev pub prefix_in : ℕ → CoreEvent → Result CoreAnswer CoreError → Option ℕ
prefix_in reader (event.Tell reader' prefix) (Ok (Told floor)) =
    if reader' == reader then Some floor else None
prefix_in reader (event.Read reader') (Ok (Seen prefix total)) =
    if reader' == reader then Some prefix else None
prefix_in reader event answer = None

abbrev pub prefixes_of : ℕ → List Turn → List ℕ
prefixes_of reader turns = filter_map (λ turn. prefix_in reader turn.event turn.answer) turns

-- each number is at least the one before, and the first is at least the given one
abbrev pub NeverFall : ℕ → List ℕ → Type 0
NeverFall least [] = Unit {0}
NeverFall least (number ∷ numbers) = (least ≤ number) × NeverFall number numbers

-- the reports of an event that was answered Placed
abbrev pub placed_in : CoreEvent → Result CoreAnswer CoreError → List Report
placed_in (event.Report reporter piece) (Ok (Placed first)) = piece
placed_in event answer = []

abbrev pub placed_reports : List Turn → List Report
placed_reports turns = flat_map (λ turn. placed_in turn.event turn.answer) turns

-- those of the reporter's events alone
abbrev pub placed_by : ℕ → CoreEvent → Result CoreAnswer CoreError → List Report
placed_by number (event.Report reporter piece) (Ok (Placed first)) =
    if reporter == number then piece else []
placed_by number event answer = []

abbrev pub reports_placed_by : ℕ → List Turn → List Report
reports_placed_by number turns = flat_map (λ turn. placed_by number turn.event turn.answer) turns

-- what was seen is the total of the table of that many reports of the log
abbrev pub IsOfLog : (List Report → ℕ) → List Report → Result CoreAnswer CoreError → Type 0
IsOfLog total log (Ok (Seen prefix seen)) = (prefix ≤ length log) × (seen ≡ total (take prefix log))
IsOfLog total log answer = Unit {0}

-- what a run leaves behind
pub record IsHistory (total : List Report → ℕ) (readers : ℕ) (turns : List Turn) (end : State)
    : Type 0 where
  -- what a reader is answered never falls
  pub never_fall : (reader : ℕ) → reader < readers → NeverFall 0 (prefixes_of reader turns)
  -- each total that was seen is that of the table of the seen prefix
  pub totals : AllByRecursion (λ turn. IsOfLog total end.log turn.answer) turns
  -- the final log begins with the log at each moment
  pub grows : (before after : List Turn) (moment : State)
      → IsRun total (first_state readers) before moment → IsRun total moment after end
      → IsPrefix moment.log end.log
  -- each number's reports stand in it once, in the order of the events that were answered Placed
  pub own : (number : ℕ) → reports_of number end.log ≡ reports_placed_by number turns
  -- and it holds no other report
  pub whole : end.log ≡ placed_reports turns

-- for every list of events, from the first state on
abbrev pub CoreHistoryLaw : Type 0
CoreHistoryLaw = (total : List Report → ℕ) (reporters readers : ℕ) (turns : List Turn) (end : State)
    → AreMeant reporters readers turns → IsRun total (first_state readers) turns end
    → IsHistory total readers turns end
