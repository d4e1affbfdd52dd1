-- The lines of a state are lines of the input, which mean the reports that they were made from.
use Rattle.std.specs.Prelude.{◌≡◌, ℕ, ◌<◌, ◌≤◌, ◌&&◌, Bool, true, List, length, nat_lt, Some}
use Rattle.std.specs.List.{list_all}
use Rattle.bwe_specs.specs.declared.report.Report.{Report}
use Rattle.bwe_specs.specs.Fit.{IsFit}
use Rattle.text_scan.specs.Names.{number_of_name}
use Rattle.doc_names.specs.NameTexts.{entry_at}
use Rattle.live_lines.specs.declared.line.LineMeaning.TheVariants.{NewReport}
use Rattle.live_lines.specs.Known.{Known, IsByOwner}
use Rattle.live_lines.specs.Cutting.{within}
use Rattle.live_lines.specs.Meaning.{meaning_of}
use Rattle.change_text.specs.StateText.{report_text}

-- a byte of ASCII above the space (32)
abbrev pub is_plain : ℕ → Bool
is_plain byte = nat_lt 32 byte && nat_lt byte 128

-- one to 64 such bytes, as the names of a document are
pub record IsName (text : List ℕ) : Type 0 where
  pub some : 1 ≤ length text
  pub few : length text ≤ 64
  pub plain : list_all is_plain text ≡ true

-- each is a name, and stands first at its own number
abbrev pub AreNames : List (List ℕ) → Type 0
AreNames names = (number : ℕ) → number < length names
    → IsName (entry_at names number) × (number_of_name names (entry_at names number) ≡ Some number)

pub record AreReadable (known : Known) : Type 0 where
  pub reporters : AreNames known.names.reporters
  pub tasks : AreNames known.names.tasks
  pub links : AreNames known.names.links

-- the line of a report by the owner is no longer than a line may be, and means that report
abbrev pub StateLinesAreRead : Type 0
StateLinesAreRead = (known : Known) (report : Report) → AreReadable known
    → report.reporter < length known.names.reporters
    → IsFit (length known.names.tasks) (length known.names.links) report → IsByOwner known report
    → (within (report_text known.names report) ≡ Some (report_text known.names report))
    × (meaning_of known (Some (report_text known.names report)) ≡ NewReport report)
