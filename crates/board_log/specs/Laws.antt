-- Laws of own lists.
use Rattle.std.specs.Prelude.{ℕ, ◌≡◌, ◌<◌, List, ◌++◌, length, map, Some, slice_get}
use Rattle.std.specs.List.{All}
use Rattle.bwe_specs.specs.declared.report.Report.{Report}
use Rattle.bwe_specs.specs.Reports.{reports_of}
use Rattle.board_log.specs.declared.roll.PlacedReport.{PlacedReport}
use Rattle.board_log.specs.Roll.{IsBy, placed, own_of, sent_of_first}

-- the reports of a list of reports with places
abbrev pub without_places : List PlacedReport → List Report
without_places own = map (λ entry. entry.report) own

-- each report of an own list stands in the log at its place
abbrev pub StandIn : List Report → List PlacedReport → Type 0
StandIn log own = All (λ entry. slice_get log entry.place ≡ Some entry.report) own

-- an own list without the places is the reporter's reports in the log, in their order
abbrev pub OwnListsAreTheReports : Type 0
OwnListsAreTheReports = (number : ℕ) (log : List Report)
    → without_places (own_of number log) ≡ reports_of number log

-- a piece at the end of the log adds to an own list just the piece's reports of that number
abbrev pub OwnListsGrowByPieces : Type 0
OwnListsGrowByPieces = (number : ℕ) (log piece : List Report)
    → own_of number (log ++ piece) ≡ own_of number log ++ placed number (length log) piece

abbrev pub OwnListsStandInTheLog : Type 0
OwnListsStandInTheLog = (number : ℕ) (log : List Report) → StandIn log (own_of number log)

-- where each report is of one of so many reporters, their own lists together are as long as the log
abbrev pub OwnListsAddUp : Type 0
OwnListsAddUp = (reporters : ℕ) (log : List Report)
    → All (λ report. report.reporter < reporters) log → sent_of_first reporters log ≡ length log

-- a reporter's piece with places, without the places again, is the piece
abbrev pub PlacedPiecesAreThePieces : Type 0
PlacedPiecesAreThePieces = (number place : ℕ) (piece : List Report) → All (IsBy number) piece
    → without_places (placed number place piece) ≡ piece
