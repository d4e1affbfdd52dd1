-- The names of a document as texts. A text is the list of its bytes.
use Rattle.std.specs.Prelude.{◌≢◌, ℕ, List, [], slice_index_or}
use Rattle.std.specs.List.{All}
use Rattle.doc_names.specs.declared.Names.{Names}

-- the texts of the names, each list in the order of the numbers
pub record NameTexts : Type 0 where
  pub links : List (List ℕ)
  pub groups : List (List ℕ)
  pub tasks : List (List ℕ)
  pub reporters : List (List ℕ)

-- what contracts see of names
abbrev pub texts_of : Names → NameTexts
texts_of names = record {
  links = names.links;
  groups = names.groups;
  tasks = names.tasks;
  reporters = names.reporters;
}

-- the entry of a list of texts at this number; an empty text where there is no such entry
abbrev pub entry_at : List (List ℕ) → ℕ → List ℕ
entry_at texts number = slice_index_or texts number []

-- the name has no line feed (10) and no space (32)
abbrev pub IsPlain : List ℕ → Type 0
IsPlain name = All (λ byte. (byte ≢ 10) × (byte ≢ 32)) name
