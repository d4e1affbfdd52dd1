-- Which inputs are too long for what stands in them as the document.
use Rattle.std.specs.Prelude.{ℕ, Bool, List}
use Rattle.one_run.specs.Endings.{is_above}
use Rattle.version_scan.specs.Version.{is_of_version_4}

-- an input that is one document
abbrev pub document_is_too_long : List ℕ → Bool
document_is_too_long input = is_above (is_of_version_4 input) input
