-- Which inputs of two parts are too long for what stands in them as the document.
use Rattle.std.specs.Prelude.{ℕ, Bool, false, List, Option, Some, None}
use Rattle.one_run.specs.Endings.{is_above}
use Rattle.two_part.specs.declared.Parts.{Parts}
use Rattle.two_part.specs.TwoPart.{document_in, parts_of}
use Rattle.version_scan.specs.Version.{is_of_version_4}

-- the document between these parts is of version 4
abbrev pub is_4_between : List ℕ → Option Parts → Bool
is_4_between input None = false
is_4_between input (Some parts) = is_of_version_4 (document_in input parts)

-- an input of two parts, of which the first is the document
abbrev pub parts_are_too_long : List ℕ → Bool
parts_are_too_long input = is_above (is_4_between input (parts_of input)) input
