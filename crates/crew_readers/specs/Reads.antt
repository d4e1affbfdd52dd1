-- What a reader's pass has read.
use Rattle.std.specs.Prelude.{◌≡◌, ℕ, ◌+◌, List, length}
use Rattle.bwe_specs.specs.declared.report.Report.{Report}
use Rattle.std.specs.List.{All}
use mathlib.Core.List.{IsPrefix}
use Rattle.board_pair.specs.Reading.{Reading}
use Rattle.crew_log.specs.declared.log.ReadLine.{ReadLine}
use Rattle.crew_log.specs.Lines.{IsLineOf, NeverGoBack}

-- the pass has read so often, and these are the lines
pub record HasRead {T : Type 0} (covers : T → ℕ) (belongs : List Report → T → Type 0)
    (total_of : T → ℕ) (reads : ℕ) (old : Reading T) (read : List ReadLine) (new : Reading T)
    : Type 0 where
  pub log : IsPrefix old.log new.log
  pub count : length read ≡ reads
  pub lines : All (IsLineOf belongs total_of new.log) read
  pub never_back : NeverGoBack (covers old.table) read (covers new.table)
  pub reads_so : new.reads ≡ old.reads + reads
