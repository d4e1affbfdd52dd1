-- The numbers of names.
use Rattle.std.specs.Prelude.{◌≡◌, ℕ, List, Option, position}
use Rattle.std.specs.HashMap.{get_by_text}
use Rattle.std.specs.Str.{bytes_eq}
use Rattle.text_scan.specs.declared.names.NameIndex.{NameIndex}

-- a name's number is the first index at which it stands
abbrev pub number_of_name : List (List ℕ) → List ℕ → Option ℕ
number_of_name names name = position (bytes_eq name) names

-- the number that an index has for a name
abbrev pub number_in : NameIndex → List ℕ → Option ℕ
number_in index name = get_by_text index.numbers name

-- each name has its number in the index, and nothing else has one
abbrev pub IsIndexOf : List (List ℕ) → NameIndex → Type 0
IsIndexOf names index = (name : List ℕ) → number_in index name ≡ number_of_name names name

-- the number that a name has among any names of which this is the index
abbrev pub IsNumberOf : NameIndex → List ℕ → Option ℕ → Type 0
IsNumberOf index name number =
    (names : List (List ℕ)) → IsIndexOf names index → number ≡ number_of_name names name
