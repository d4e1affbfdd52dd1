-- Where the fault of a document is, as far as it tells of the version.
use Rattle.std.specs.Prelude.{Bool, true, false, List, [], ◌∷◌}
use Rattle.std.specs.Str.{bytes_eq}
use Rattle.raw_document.specs.declared.key.DocKey.TheVariants as keys
use Rattle.raw_document.specs.declared.doc_path.PathStep.{PathStep}
use Rattle.raw_document.specs.declared.doc_path.PathStep.TheVariants.{Key, Index}
use Rattle.raw_document.specs.declared.doc_path.Fault.{Fault}
use Rattle.raw_document.specs.declared.doc_path.Fault.TheVariants.{OutOfMemory, At}
use Rattle.raw_document.specs.Words.{word}

-- a step to the version
abbrev pub names_version : PathStep → Bool
names_version (Key key) = bytes_eq (word key) (word keys.Version)
names_version (Index place) = false

abbrev pub begins_with_version : List PathStep → Bool
begins_with_version [] = false
begins_with_version (step ∷ path) = names_version step

-- a fault that does not depend on the version
abbrev pub is_of_any_version : List PathStep → Bool
is_of_any_version [] = true
is_of_any_version (step ∷ path) = names_version step

abbrev pub is_at_version : Fault → Bool
is_at_version OutOfMemory = false
is_at_version (At path) = begins_with_version path.steps.items

abbrev pub is_before_version : Fault → Bool
is_before_version OutOfMemory = true
is_before_version (At path) = is_of_any_version path.steps.items
