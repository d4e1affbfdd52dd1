-- The lines of a part, and the first at fault.
use Rattle.std.specs.Prelude.{◌≡◌, ℕ, List, length, nat_lt, Option, None, Result, Ok, Err, if◌then◌else◌}
use Rattle.text_scan.specs.Items.{items_of}
use Rattle.text_scan.specs.Words.{Text}
use Rattle.sample_lines.specs.declared.sample.Sample.{Sample}
use Rattle.sample_lines.specs.declared.error.SampleError.{SampleError}
use Rattle.sample_lines.specs.declared.error.SampleError.TheVariants.{Refused, OutOfMemory}
use Rattle.sample_lines.specs.Known.{Known}
use Rattle.sample_lines.specs.SampleLine.{sample_of}

-- the sample of the next line, where there is room for one more
abbrev pub next_sample : Known → ℕ → List Sample → Text → Option Sample
next_sample known room before line =
    if nat_lt (length before) room then sample_of known line else None

-- the samples of a part, for so many of which there is room, or the number of the first line at
-- fault
abbrev pub samples_in : Known → ℕ → Text → Result (List Sample) ℕ
samples_in known room part = items_of (next_sample known room) part

-- what a call answers is what reading gives, unless memory ran out
abbrev pub Answers : {X Y : Type 0} → (X → Y) → Result X SampleError → Result Y ℕ → Type 0
Answers view (Ok found) read = read ≡ Ok (view found)
Answers view (Err (Refused line)) read = read ≡ Err line
Answers view (Err OutOfMemory) read = Unit {0}
