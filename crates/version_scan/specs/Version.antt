-- Whether a document is of version 4, whose limits are greater.
use Rattle.std.specs.Prelude.{ℕ, ◌==◌, Bool, false, List, Option, Some, None, Result, Ok, Err}
use Rattle.serde_json.specs.Data.{Data}
use Rattle.raw_document.specs.declared.key.DocKey.TheVariants as keys
use Rattle.raw_document.specs.declared.doc_path.PathStep.{PathStep}
use Rattle.raw_document.specs.Json.{json}
use Rattle.raw_document.specs.Shape.{field, whole}

abbrev pub is_version_4 : Result ℕ (List PathStep) → Bool
is_version_4 (Ok version) = version == 4
is_version_4 (Err path) = false

-- the value is an object whose member `version` is the whole number 4
abbrev pub is_4_at : Data → Bool
is_4_at d = is_version_4 (field keys.Version whole d)

abbrev pub is_4_in : Option Data → Bool
is_4_in None = false
is_4_in (Some d) = is_4_at d

-- The bytes are a JSON object whose `version` is the whole number 4. Of more members of that name
-- the last one counts, and names are compared after escapes.
unfoldable pub is_of_version_4 : List ℕ → Bool
is_of_version_4 bytes = is_4_in (json bytes)

-- a whole number is 4
abbrev pub is_number_4 : Option ℕ → Bool
is_number_4 None = false
is_number_4 (Some number) = number == 4
