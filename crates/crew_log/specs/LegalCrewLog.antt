-- When the log of a run is legal.
use Rattle.std.specs.Prelude.{◌≡◌, ℕ, ◌<◌, ◌≤◌, List, [], ◌∷◌, ◌++◌, Vec, length, map, slice_index_or}
use Rattle.std.specs.List.{All}
use Rattle.std.specs.declared.alloc.Global.{Global}
use Rattle.bwe_specs.specs.declared.report.Report.{Report}
use Rattle.bwe_specs.specs.Reports.{reports_of}
use Rattle.board_core.specs.Core.{IsAllowed}
use Rattle.bwe_specs.specs.Fit.{IsFit}
use Rattle.crew_log.specs.declared.log.ReadLine.{ReadLine}
use Rattle.crew_log.specs.declared.log.ReaderLog.{ReaderLog}
use Rattle.crew_log.specs.declared.log.CrewLog.{CrewLog}
use Rattle.crew_log.specs.Lines.{IsLineOf, NeverGoBack}

-- a reader's lines, and the last one behind them
abbrev pub lines_of : ReaderLog → List ReadLine
lines_of reader = reader.reads.items ++ reader.last ∷ []

-- the reader has so many lines, its final log begins with the history, and its last line covers
-- that
pub record IsReaderOf {T : Type 0} (belongs : List Report → T → Type 0) (total_of : T → ℕ)
    (allowed : Report → Type 0) (reads : ℕ) (history : List Report) (reader : ReaderLog)
    : Type 0 where
  pub reads_so : length reader.reads.items ≡ reads
  pub length_so : reader.length ≡ length (history ++ reader.beyond.items)
  pub allowed_so : All allowed reader.beyond.items
  pub lines : All (IsLineOf belongs total_of (history ++ reader.beyond.items)) (lines_of reader)
  pub never_back : NeverGoBack 0 (lines_of reader) reader.length
  pub covers : length history ≤ reader.last.prefix

-- the history has each reporter's script once and in its order and no other report, each reader is
-- one of it, and the table is its table
pub record IsLegalCrewLog {T : Type 0} (belongs : List Report → T → Type 0) (total_of : T → ℕ)
    (tasks links : ℕ) (scripts : List (Vec Report Global)) (readers reads : ℕ) (log : CrewLog T)
    : Type 0 where
  pub scripts_so : (number : ℕ) (other : Vec Report Global) → number < length scripts
      → reports_of number log.history.items ≡ (slice_index_or scripts number other).items
  pub no_other : All (IsAllowed (length scripts) (IsFit tasks links)) log.history.items
  pub sent : log.sent.items ≡ map (λ script. length script.items) scripts
  pub readers_so : length log.readers.items ≡ readers
  pub each_reader : All
      (IsReaderOf belongs total_of (IsAllowed (length scripts) (IsFit tasks links)) reads
      log.history.items) log.readers.items
  pub table_so : belongs log.history.items log.table

-- no report came beyond the history: each reader's final log is as long as it
abbrev pub IsClosed : {T : Type 0} → CrewLog T → Type 0
IsClosed log = All (λ reader. reader.length ≡ length log.history.items) log.readers.items
