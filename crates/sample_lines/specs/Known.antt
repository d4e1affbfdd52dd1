-- What a document knows of samples.
use Rattle.std.specs.Prelude.{ℕ, List}
use Rattle.doc_names.specs.declared.Names.{Names}
use Rattle.doc_names.specs.NameTexts.{NameTexts, texts_of}

-- its names, and the number of each task's owner
pub record Known : Type 0 where
  pub names : NameTexts
  pub task_owners : List ℕ

abbrev pub known_by : Names → List ℕ → Known
known_by names task_owners = record { names = texts_of names; task_owners = task_owners }
