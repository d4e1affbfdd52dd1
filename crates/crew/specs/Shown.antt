-- What the readers of a run read, and what a gate was shown of it.
use Rattle.std.specs.Prelude.{ℕ, ◌<◌, ◌≤◌, ◌^◌, List, Vec, Result, IfOk, length, slice_index_or}
use Rattle.std.specs.declared.alloc.Global.{Global}
use Rattle.bwe_specs.specs.declared.OutOfMemory.{OutOfMemory}
use Rattle.crew_log.specs.declared.log.ReadLine.{ReadLine}
use Rattle.crew_log.specs.declared.log.ReaderLog.{ReaderLog}
use Rattle.crew_log.specs.LegalCrewLog.{lines_of}
use Rattle.crew_readers.specs.declared.actor.Actor.{Actor}
use Rattle.crew_readers.specs.Gates.{AreShown}
use Rattle.crew_readers.specs.Readers.{HasLines}
use Rattle.bwe_specs.specs.declared.report.Report.{Report}
use Rattle.bwe_specs.specs.declared.limits.TheConstants.{MAX_READS}
use Rattle.board.specs.Reading.{Reading, IsNewReader}

-- the reader of this number is new, and neither its number nor its reads are too many
abbrev pub MayRead : {T : Type 0} → (T → ℕ) → (List Report → T → Type 0) → ℕ → ℕ → Reading T
    → Type 0
MayRead covers belongs reads number pass =
    (number < 2 ^ 32) × (reads ≤ MAX_READS) × IsNewReader covers belongs pass

-- the lines are those of so many reads, and the gate was shown each as a line of this number
abbrev pub HasShownLines : {T : Type 0} → (T → ℕ) → (List Report → T → Type 0) → (T → ℕ) → ℕ
    → (Actor → ℕ → Type 0) → (ℕ → ℕ → ℕ → ℕ → Type 0) → ℕ → List ReadLine → Reading T → Type 0
HasShownLines covers belongs total_of reads begins shows number lines pass =
    HasLines covers belongs total_of reads lines pass × AreShown begins shows number lines

-- the lines of each reader, where none of its calls was refused
abbrev pub HaveShown : (Actor → ℕ → Type 0) → (ℕ → ℕ → ℕ → ℕ → Type 0)
    → List (Result (Vec ReadLine Global) OutOfMemory) → Type 0
HaveShown begins shows lines = (number : ℕ) (other : Result (Vec ReadLine Global) OutOfMemory)
    → number < length lines
    → IfOk (slice_index_or lines number other) (λ read. AreShown begins shows number read.items)

-- all lines of each reader, the last one too
abbrev pub LogIsShown : (Actor → ℕ → Type 0) → (ℕ → ℕ → ℕ → ℕ → Type 0) → List ReaderLog → Type 0
LogIsShown begins shows readers = (number : ℕ) (other : ReaderLog) → number < length readers
    → AreShown begins shows number (lines_of (slice_index_or readers number other))
