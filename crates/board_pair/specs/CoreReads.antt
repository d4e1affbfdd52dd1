-- What a reader does, by Core run.
use Rattle.std.specs.Prelude.{ℕ, ◌≡◌, ◌+◌, ◌-◌, ◌^◌, ◌<◌, ◌⊎◌, max, min, List, length, Ok, slice_index, slice_set}
use mathlib.Core.List.{IsPrefix}
use Rattle.bwe_specs.specs.declared.report.Report.{Report}
use Rattle.board_core.specs.declared.event.CoreEvent.TheVariants as event
use Rattle.board_core.specs.declared.event.CoreAnswer.TheVariants.{Told, Seen}
use Rattle.board_core.specs.CoreRun.{State, Steps}
use Rattle.board_core.specs.Core.{IsInOrder}
use Rattle.board_pair.specs.Reading.{Reading}

-- the total of a list of reports is that of the table which belongs to it
abbrev pub IsTotal : {T : Type 0} → (List Report → T → Type 0) → (T → ℕ) → (List Report → ℕ)
    → Type 0
IsTotal {T} belongs total_of total = (reports : List Report) (table : T) → belongs reports table
    → total_of table ≡ total reports

-- the state is in order, has this floor of the reader, and its log begins with what was seen
pub record HasReader (reader floor : ℕ) (seen : List Report) (state : State) : Type 0 where
  pub order : IsInOrder state
  pub in_range : reader < length state.floors
  pub floor_so : slice_index state.floors reader ≡ floor
  pub begins : IsPrefix seen state.log

-- the state with another floor of a reader
abbrev pub at_floor : State → ℕ → ℕ → State
at_floor state reader floor = record state { floors = slice_set state.floors reader floor }

-- the event Read of a reader whose pass has this table afterwards: it shows what that covers, and
-- its total
abbrev pub IsReadEvent : {T : Type 0} → (T → ℕ) → (T → ℕ) → (List Report → ℕ) → ℕ → T → State
    → State → Type 0
IsReadEvent covers total_of total reader table old new = Steps total old (event.Read reader)
    (Ok (Seen (covers table) (total_of table))) new

-- the event Tell of a prefix, which gives the reader this floor
abbrev pub IsTellEvent : (List Report → ℕ) → ℕ → ℕ → ℕ → State → Type 0
IsTellEvent total reader prefix floor old = Steps total old (event.Tell reader prefix)
    (Ok (Told floor)) (at_floor old reader floor)

-- the pass has entered once more and counts a fresh read, and from what it covered it has come to
-- what was published at that step, if that is more. This is the event Read, in whatever state has
-- posted just that
pub record HasReadPosted {T : Type 0} (covers total_of : T → ℕ)
    (belongs : List Report → T → Type 0) (old new : Reading T) : Type 0 where
  pub counted : new.fresh ≡ min (old.fresh + 1) (2 ^ 64 - 1)
  pub entered : new.visits.count ≡ old.visits.count + 1
  pub covered : covers new.table ≡ max (covers old.table) new.visits.covers
  pub run : (total : List Report → ℕ) (reader : ℕ) (state : State)
      → IsTotal belongs total_of total → HasReader reader (covers old.table) new.log state
      → state.posted ≡ new.visits.covers
      → IsReadEvent covers total_of total reader new.table state
      (at_floor state reader (covers new.table))

-- the pass shows again what it had: no event
pub record HasReadAgain {T : Type 0} (old new : Reading T) : Type 0 where
  pub fresh : new.fresh ≡ old.fresh
  pub log : new.log ≡ old.log
  pub table : new.table ≡ old.table

-- what a read is by Core run
abbrev pub IsReadStep : {T : Type 0} → (T → ℕ) → (T → ℕ) → (List Report → T → Type 0) → Reading T
    → Reading T → Type 0
IsReadStep covers total_of belongs old new = HasReadPosted covers total_of belongs old new
    ⊎ HasReadAgain old new

-- the pass covered the acknowledgement already, and has entered nothing. This is the event Tell,
-- whatever is posted
pub record WasToldBefore {T : Type 0} (covers : T → ℕ) (prefix : ℕ) (old new : Reading T)
    : Type 0 where
  pub visits : new.visits ≡ old.visits
  pub log : new.log ≡ old.log
  pub table : new.table ≡ old.table
  pub run : (total : List Report → ℕ) (reader : ℕ) (state : State)
      → HasReader reader (covers old.table) new.log state
      → IsTellEvent total reader prefix (covers new.table) state

-- the pass has entered once more, and has come to what was published at that step. These are the
-- event Tell and then the event Read, in whatever state has posted just that
pub record IsToldAndReads {T : Type 0} (covers total_of : T → ℕ)
    (belongs : List Report → T → Type 0) (prefix : ℕ) (old new : Reading T) : Type 0 where
  pub entered : new.visits.count ≡ old.visits.count + 1
  pub covered : covers new.table ≡ new.visits.covers
  pub run : (total : List Report → ℕ) (reader : ℕ) (state : State)
      → IsTotal belongs total_of total → HasReader reader (covers old.table) new.log state
      → state.posted ≡ new.visits.covers
      → IsTellEvent total reader prefix prefix state
      × IsReadEvent covers total_of total reader new.table (at_floor state reader prefix)
      (at_floor state reader (covers new.table))

-- what it is by Core run that a reader learns an acknowledgement of so many reports
abbrev pub IsTellStep : {T : Type 0} → (T → ℕ) → (T → ℕ) → (List Report → T → Type 0) → ℕ
    → Reading T → Reading T → Type 0
IsTellStep covers total_of belongs prefix old new = WasToldBefore covers prefix old new
    ⊎ IsToldAndReads covers total_of belongs prefix old new
