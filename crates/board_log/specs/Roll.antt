-- Own lists, the rule of the roll, and what its steps tell.
use Rattle.std.specs.Prelude.{ℕ, zero, suc, ◌≡◌, ◌<◌, ◌+◌, ◌==◌, true, false, if◌then◌else◌, List, [], ◌∷◌, ◌++◌, length, Vec}
use Rattle.std.specs.declared.alloc.Global.{Global}
use mathlib.Core.Option.{Option, some, none}
use lib.ListN.{get_elem?}
use Rattle.atomic_table.specs.Table.{Me, Step}
use Rattle.atomic_table.specs.Seated.{TableId}
use Rattle.bwe_specs.specs.declared.report.Report.{Report}
use Rattle.board_log.specs.declared.roll.Knows.{Knows}
use Rattle.board_log.specs.declared.roll.PlacedReport.{PlacedReport}

-- the report is of this reporter
abbrev pub IsBy : ℕ → Report → Type 0
IsBy number report = report.reporter ≡ number

-- the reports of a number, with their places, where the first of these reports stands at `place`
abbrev pub placed : ℕ → ℕ → List Report → List PlacedReport
placed number place [] = []
placed number place (report ∷ reports) =
    if report.reporter == number
    then record { place = place; report = report } ∷ placed number (suc place) reports
    else placed number (suc place) reports

-- the own list of a number: all its reports in a log
abbrev pub own_of : ℕ → List Report → List PlacedReport
own_of number log = placed number 0 log

-- how many reports the first so many numbers have in a log together
abbrev pub sent_of_first : ℕ → List Report → ℕ
sent_of_first zero log = 0
sent_of_first (suc numbers) log = sent_of_first numbers log + length (own_of numbers log)

-- what contracts see of the roll: the log, and how many members were made
pub record Rolled : Type 0 where
  pub log : List Report
  pub members : ℕ

-- what contracts see of a member: its number and its own list
pub record Membership : Type 0 where
  pub number : ℕ
  pub own : List PlacedReport

-- what the keeper, which is no member, knows: the log, and how many members were made
abbrev pub knower : List Report → ℕ → Knows
knower log seats =
    record { keeps = true; log = log; seats = seats; reports = false; number = 0; own = [] }

-- what a member knows
abbrev pub member : ℕ → List PlacedReport → Knows
member number own =
    record { keeps = false; log = []; seats = 0; reports = true; number = number; own = own }

abbrev pub nobody : Knows
nobody = record { keeps = false; log = []; seats = 0; reports = false; number = 0; own = [] }

-- what the keeper knows with a member taken in
abbrev pub both_of : List Report → ℕ → ℕ → List PlacedReport → Knows
both_of log seats number own =
    record { keeps = true; log = log; seats = seats; reports = true; number = number; own = own }

abbrev pub one_seat_more : Knows → Knows
one_seat_more view = knower view.log (view.seats + 1)

abbrev pub newcomer : Knows → Knows
newcomer view = member view.seats []

abbrev pub with_member : Knows → Knows → Knows
with_member view other = both_of view.log view.seats other.number other.own

abbrev pub without_member : Knows → Knows
without_member view = knower view.log view.seats

abbrev pub member_of : Knows → Knows
member_of view = member view.number view.own

-- what the rule says of the seat `by`: only the keeper knows the log, and only a number's owner has
-- that number, with its own list
abbrev pub Fits : ℕ → List Report → ℕ → (ℕ → ℕ) → ℕ → Knows → Type 0
Fits keeper log seats owner by view =
    (view.keeps ≡ true → (by ≡ keeper) × (view.log ≡ log) × (view.seats ≡ seats))
    × (view.reports ≡ true
    → (view.number < seats) × (owner view.number ≡ by) × (view.own ≡ own_of view.number log))

-- the rule of the roll: the word counts the log, and each seat fits
abbrev pub IsKept : List ℕ → List Knows → Type 0
IsKept words views =
    (keeper : ℕ) × (log : List Report) × (seats : ℕ) × (owner : ℕ → ℕ) × (words ≡ length log ∷ [])
    × ((by : ℕ) (view : Knows) → get_elem? views by ≡ some view
    → Fits keeper log seats owner by view)

abbrev pub announced : Option (Vec Report Global) → List Report
announced (some piece) = piece.items
announced none = []

-- what the keeper knows, with a member taken in, once it has added a piece of that member
abbrev pub longer_by : Knows → List Report → Knows
longer_by view piece =
    both_of (view.log ++ piece) view.seats view.number
    (view.own ++ placed view.number (length view.log) piece)

-- the keeper adds the piece that it announces
abbrev pub AppendsPiece : Step (Vec Report Global) → Me (Vec Report Global) Knows → ℕ
    → Me (Vec Report Global) Knows → Type 0
AppendsPiece step before found after = (after.1 ≡ before.1)
    × (after.0 ≡ longer_by before.0 (announced step.said))

-- the own list that the keeper has taken in is all of its number
abbrev pub ChecksOwn : Step (Vec Report Global) → Me (Vec Report Global) Knows → ℕ
    → Me (Vec Report Global) Knows → Type 0
ChecksOwn step before found after = (after ≡ before)
    × (before.0.reports ≡ true → before.0.own ≡ own_of before.0.number before.0.log)

-- the keeper's seat at the named table, whose one word counts the log
pub record IsKeeper (named table seated : TableId) (me : Me (Vec Report Global) Knows) (len : ℕ)
    : Type 0 where
  pub seated_so : seated ≡ named
  pub named_so : table ≡ named
  pub one_word : table.words ≡ 1
  pub knows : me ≡ (knower me.0.log me.0.seats, [])
  pub counted : len ≡ length me.0.log

-- a member's seat at the named table
pub record IsMember (named seated : TableId) (me : Me (Vec Report Global) Knows) : Type 0 where
  pub seated_so : seated ≡ named
  pub knows : me ≡ (member me.0.number me.0.own, [])
