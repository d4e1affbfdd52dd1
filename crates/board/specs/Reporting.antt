-- What contracts see of a reporter's pass.
use Rattle.std.specs.Prelude.{ℕ, ◌<◌, ◌≡◌, List, [], length, Option, Some, None, slice_index_or}
use Rattle.bwe_specs.specs.declared.report.Report.{Report}
use Rattle.board_log.specs.declared.roll.PlacedReport.{PlacedReport}
use Rattle.board_log.specs.Roll.{Membership}
use Rattle.board_log.specs.Laws.{StandIn}

-- its number, its own list, and the log that it has seen
pub record Reporting : Type 0 where
  pub number : ℕ
  pub own : List PlacedReport
  pub seen : List Report

-- the own list of a member, if there is one
abbrev pub own_in : Option Membership → List PlacedReport
own_in (Some member) = member.own
own_in None = []

-- the pass counts its own list, and each report there stands in the log that it has seen
pub record IsReporting (number sent : ℕ) (seen : List Report) (seat : Option Membership)
    : Type 0 where
  pub seated : seat ≡ Some (record { number = number; own = own_in seat })
  pub counted : sent ≡ length (own_in seat)
  pub stand : StandIn seen (own_in seat)

-- the pass at each place has that number
abbrev pub AreInOrder : List Reporting → Type 0
AreInOrder passes = (number : ℕ) (other : Reporting) → number < length passes
    → (slice_index_or passes number other).number ≡ number

-- a reporter's pass as it is handed out
abbrev pub fresh_pass : ℕ → Reporting
fresh_pass number = record { number = number; own = []; seen = [] }

-- the passes as they are handed out, in the order of their numbers
abbrev pub AreFresh : List Reporting → Type 0
AreFresh passes = (number : ℕ) (other : Reporting) → number < length passes
    → slice_index_or passes number other ≡ fresh_pass number
