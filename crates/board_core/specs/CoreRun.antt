-- The run of a board as one list and a few numbers.
use Rattle.std.specs.Prelude.{◌≡◌, ℕ, ◌+◌, ◌<◌, ◌≤◌, List, [], ◌++◌, Bool, Ok, Err, Result, length, take, replicate, slice_index, slice_set, min, max, nat_lt, if◌then◌else◌, All}
use Rattle.bwe_specs.specs.declared.report.Report.{Report}
use Rattle.bwe_specs.specs.declared.limits.TheConstants.{MAX_REPORTS}
use Rattle.board_core.specs.declared.event.CoreEvent.{CoreEvent}
use Rattle.board_core.specs.declared.event.CoreEvent.TheVariants as event
use Rattle.board_core.specs.declared.event.CoreAnswer.{CoreAnswer}
use Rattle.board_core.specs.declared.event.CoreAnswer.TheVariants.{Placed, Posted, Told, Seen}
use Rattle.board_core.specs.declared.event.CoreError.{CoreError}
use Rattle.board_core.specs.declared.event.CoreError.TheVariants.{Full, OutOfMemory}

-- the log, how many of its reports the posted table covers, how many the maker has taken in, and
-- each reader's floor
pub record State : Type 0 where
  pub log : List Report
  pub posted : ℕ
  pub taken : ℕ
  pub floors : List ℕ

-- the log is empty, and the table of no report is posted
abbrev pub first_state : ℕ → State
first_state readers = record { log = []; posted = 0; taken = 0; floors = replicate readers 0 }

-- whether the log would have more reports with the piece than a log may have
abbrev pub is_overfull : State → List Report → Bool
is_overfull state piece = nat_lt MAX_REPORTS (length state.log + length piece)

-- how many reports a post up to a number covers
abbrev pub prefix_to_post : State → ℕ → ℕ
prefix_to_post state upto = min (max upto state.taken) (length state.log)

-- a reader's floor once it is told that a table of so many reports was posted
abbrev pub told_floor : State → ℕ → ℕ → ℕ
told_floor state reader prefix = max (slice_index state.floors reader) (min prefix state.posted)

-- what an event answers where memory is there; `total` is the total of the table of a list of
-- reports
abbrev pub answer_of : (List Report → ℕ) → State → CoreEvent → Result CoreAnswer CoreError
answer_of total state (event.Report reporter piece) =
    if is_overfull state piece then Err (Full (length state.log))
    else Ok (Placed (length state.log))
answer_of total state (event.Post upto) = Ok (Posted (prefix_to_post state upto))
answer_of total state (event.Tell reader prefix) = Ok (Told (told_floor state reader prefix))
answer_of total state (event.Read reader) =
    Ok (Seen state.posted (total (take state.posted state.log)))

-- the state after it
abbrev pub state_after : State → CoreEvent → State
state_after state (event.Report reporter piece) =
    if is_overfull state piece then state else record state { log = state.log ++ piece }
state_after state (event.Post upto) = let prefix =
    prefix_to_post state upto in record state { posted = prefix; taken = prefix }
state_after state (event.Tell reader prefix) =
    record state { floors = slice_set state.floors reader (told_floor state reader prefix) }
state_after state (event.Read reader) =
    record state { floors = slice_set state.floors reader state.posted }

-- the state after an event that is out of memory: the maker may have taken in more for a post; a
-- piece that is too long, a tell and a read take no memory
abbrev pub IsRefused : State → CoreEvent → State → Type 0
IsRefused old (event.Report reporter piece) new = (length old.log + length piece ≤ MAX_REPORTS)
    × (new ≡ old)
IsRefused old (event.Post upto) new = (old.taken ≤ new.taken)
    × (new.taken ≤ prefix_to_post old upto) × (new ≡ record old { taken = new.taken })
IsRefused old (event.Tell reader prefix) new = ⊥
IsRefused old (event.Read reader) new = ⊥

-- one event, its answer, and the state before and after it
abbrev pub Steps : (List Report → ℕ) → State → CoreEvent → Result CoreAnswer CoreError → State
    → Type 0
Steps total old event (Ok answer) new = (answer_of total old event ≡ Ok answer)
    × (new ≡ state_after old event)
Steps total old event (Err (Full held)) new = (answer_of total old event ≡ Err (Full held))
    × (new ≡ state_after old event)
Steps total old event (Err OutOfMemory) new = IsRefused old event new

-- the reporter and the reader are in range, and each report of a piece is of its reporter and fits
abbrev pub IsMeant : ℕ → ℕ → (Report → Type 0) → CoreEvent → Type 0
IsMeant reporters readers fit (event.Report reporter piece) = (reporter < reporters)
    × All (λ report. (report.reporter ≡ reporter) × fit report) piece
IsMeant reporters readers fit (event.Post upto) = Unit {0}
IsMeant reporters readers fit (event.Tell reader prefix) = reader < readers
IsMeant reporters readers fit (event.Read reader) = reader < readers

-- the log is full for the piece of the event
abbrev pub IsOverfull : State → CoreEvent → Type 0
IsOverfull state (event.Report reporter piece) = MAX_REPORTS < length state.log + length piece
IsOverfull state (event.Post upto) = ⊥
IsOverfull state (event.Tell reader prefix) = ⊥
IsOverfull state (event.Read reader) = ⊥
