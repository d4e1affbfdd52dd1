-- What a gate was shown of readers.
use Rattle.std.specs.Prelude.{ℕ, ◌≡◌, ◌<◌, List, Vec, Result, Ok, length, slice_index_or}
use Rattle.std.specs.declared.alloc.Global.{Global}
use Rattle.bwe_specs.specs.declared.OutOfMemory.{OutOfMemory}
use Rattle.crew_log.specs.declared.log.ReadLine.{ReadLine}
use Rattle.crew_log.specs.declared.log.ReaderLog.{ReaderLog}
use Rattle.crew_readers.specs.declared.actor.Actor.{Actor}
use Rattle.crew_readers.specs.declared.actor.Actor.TheVariants.{Reader}

-- it was called before this read of a reader, and shown the table of the line
abbrev pub IsShown : (Actor → ℕ → Type 0) → (ℕ → ℕ → ℕ → ℕ → Type 0) → ℕ → ℕ → ReadLine → Type 0
IsShown begins shows reader call line = begins (Reader reader) call
    × shows reader call line.prefix line.total

-- so it was at each of these lines, whose places are the numbers of the reads
abbrev pub AreShown : (Actor → ℕ → Type 0) → (ℕ → ℕ → ℕ → ℕ → Type 0) → ℕ → List ReadLine → Type 0
AreShown begins shows reader lines = (call : ℕ) (other : ReadLine) → call < length lines
    → IsShown begins shows reader call (slice_index_or lines call other)

-- each reader's log has its own lines, and its last line was shown as its read
abbrev pub EndsAreShown : (Actor → ℕ → Type 0) → (ℕ → ℕ → ℕ → ℕ → Type 0) → ℕ
    → List (Result (Vec ReadLine Global) OutOfMemory) → List ReaderLog → Type 0
EndsAreShown begins shows reads lines readers = (number : ℕ)
    (other : Result (Vec ReadLine Global) OutOfMemory) (reader : ReaderLog)
    → number < length readers
    → (slice_index_or lines number other ≡ Ok (slice_index_or readers number reader).reads)
    × IsShown begins shows number reads (slice_index_or readers number reader).last
