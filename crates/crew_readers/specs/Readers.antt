-- What the readers of a run come to.
use Rattle.std.specs.Prelude.{ℕ, ◌≡◌, ◌+◌, ◌<◌, ◌++◌, List, Vec, Result, length, slice_index_or, IfOk}
use Rattle.std.specs.List.{All}
use Rattle.std.specs.declared.alloc.Global.{Global}
use Rattle.bwe_specs.specs.declared.OutOfMemory.{OutOfMemory}
use Rattle.bwe_specs.specs.declared.report.Report.{Report}
use Rattle.board_pair.specs.Reading.{Reading}
use Rattle.crew_log.specs.declared.log.ReadLine.{ReadLine}
use Rattle.crew_log.specs.declared.log.ReaderLog.{ReaderLog}
use Rattle.crew_log.specs.Lines.{IsLineOf, NeverGoBack}

-- there are so many lines, of the log that the pass has seen; none goes back; and the pass has read
-- so often
pub record HasLines {T : Type 0} (covers : T → ℕ) (belongs : List Report → T → Type 0)
    (total_of : T → ℕ) (reads : ℕ)
    (lines : List ReadLine) (pass : Reading T) : Type 0 where
  pub count : length lines ≡ reads
  pub lines_so : All (IsLineOf belongs total_of pass.log) lines
  pub never_back : NeverGoBack 0 lines (covers pass.table)
  pub reads_so : pass.reads ≡ reads

-- each pass has such lines, where no call of it was refused
pub record HaveLines {T : Type 0} (covers : T → ℕ) (belongs : List Report → T → Type 0)
    (total_of : T → ℕ) (reads : ℕ)
    (lines : List (Result (Vec ReadLine Global) OutOfMemory)) (passes : List (Reading T))
    : Type 0 where
  pub count : length lines ≡ length passes
  pub each : (number : ℕ) (read : Result (Vec ReadLine Global) OutOfMemory) (pass : Reading T)
      → number < length passes
      → IfOk (slice_index_or lines number read)
      (λ read. HasLines covers belongs total_of reads read.items
      (slice_index_or passes number pass))

-- the pass has seen the history and what the reader's log has beyond it, its floor is the last
-- prefix, and it has read once more than so often
pub record HasEnded {T : Type 0} (covers : T → ℕ) (reads : ℕ) (history : List Report)
    (reader : ReaderLog) (pass : Reading T) : Type 0 where
  pub log : pass.log ≡ history ++ reader.beyond.items
  pub floor : covers pass.table ≡ reader.last.prefix
  pub reads_so : pass.reads ≡ reads + 1

-- there is a reader's log for each pass, which has ended so
pub record HaveEnded {T : Type 0} (covers : T → ℕ) (reads : ℕ) (history : List Report)
    (readers : List ReaderLog) (passes : List (Reading T)) : Type 0 where
  pub count : length readers ≡ length passes
  pub each : (number : ℕ) (reader : ReaderLog) (pass : Reading T) → number < length passes
      → HasEnded covers reads history (slice_index_or readers number reader)
      (slice_index_or passes number pass)
