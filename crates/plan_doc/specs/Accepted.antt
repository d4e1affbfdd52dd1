-- What of the definition Document the code answers.
use Rattle.std.specs.Prelude.{◌≡◌, length, replicate, Result, Ok, Err}
use Rattle.wan_topology.specs.Network.{network_of}
use Rattle.bwe_specs.specs.Given.{path_groups_of}
use Rattle.tree_spec.specs.Trees.{Tree, task_numbers}
use Rattle.plan_doc.specs.declared.document.Document.{Document}
use Rattle.doc_refusals.specs.declared.doc_error.DocError.{DocError}
use Rattle.doc_names.specs.NameTexts.{texts_of}
use Rattle.doc_refusals.specs.Refusals.{Refusal}
use Rattle.doc_parts.specs.Document.{Accepted}
use Rattle.doc_parts.specs.Passing.{NamesRefusal}

-- the tree of an accepted document, of which nobody has asked anything
abbrev pub tree_of : Accepted → Tree
tree_of accepted =
    record {
      top = accepted.top;
      clusters = accepted.clusters;
      demands = replicate (length (task_numbers accepted.clusters)) 0;
    }

-- the version is the same, and each part is what its builder makes of the part of that name
pub record IsDocumentOf (accepted : Accepted) (document : Document) : Type 0 where
  pub version : document.version ≡ accepted.version
  pub tree : document.tree ≡ tree_of accepted
  pub topology : document.topology ≡ network_of accepted.links
  pub plan : document.plan ≡ path_groups_of accepted.groups
  pub script : document.script.items ≡ accepted.script
  pub closings : document.closings.items ≡ accepted.closings
  pub names : texts_of document.names ≡ accepted.names
  pub task_owners : document.task_owners.items ≡ accepted.task_owners
  pub link_owners : document.link_owners.items ≡ accepted.link_owners

abbrev pub IsAccepted : Result Accepted Refusal → Document → Type 0
IsAccepted read document = (accepted : Accepted) × (read ≡ Ok accepted)
    × IsDocumentOf accepted document

-- What was answered is what the definition answers, unless memory ran out.
abbrev pub Answers : Result Document DocError → Result Accepted Refusal → Type 0
Answers (Ok document) read = IsAccepted read document
Answers (Err error) read = NamesRefusal read error
