-- What is known of a document: its names, and the owner of each task and link.
use Rattle.std.specs.Prelude.{◌≡◌, ℕ, List, Option, Some}
use Rattle.bwe_specs.specs.declared.report.Report.{Report}
pub use Rattle.doc_names.specs.Owners.{owner_of}
use Rattle.doc_names.specs.declared.Names.{Names}
use Rattle.doc_names.specs.NameTexts.{NameTexts, texts_of}

-- names and owners, each list in the order of the numbers; a link may have no owner
pub record Known : Type 0 where
  pub names : NameTexts
  pub task_owners : List ℕ
  pub link_owners : List (Option ℕ)

abbrev pub known_by : Names → List ℕ → List (Option ℕ) → Known
known_by names task_owners link_owners = record {
  names = texts_of names;
  task_owners = task_owners;
  link_owners = link_owners;
}

-- the report is by the owner of its task or link
abbrev pub IsByOwner : Known → Report → Type 0
IsByOwner known report =
    owner_of known.task_owners known.link_owners report.target ≡ Some report.reporter
