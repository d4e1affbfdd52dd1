-- What was gathered stands for the document that it was gathered of.
use Rattle.std.proofs.Common.{◌≡◌, ℕ, List, length, replicate, Some, Ok, ap₂}
use Rattle.serde_json.specs.Data.{Data}
use Rattle.bwe_specs.specs.DocumentLimits.{limits_of}
use Rattle.tree_spec.specs.Childless.{clusters_of, idle_tree}
use Rattle.tree_spec.specs.Numbering.{numbered_clusters}
use Rattle.tree_spec.specs.States.{ClusterState}
use Rattle.tree_spec.specs.Trees.{Tree, task_numbers}
use Rattle.raw_document.specs.Forms.{document_at}
use Rattle.raw_document.specs.Json.{json}
use Rattle.raw_document.specs.Raw.{Raw}
use Rattle.doc_names.specs.NameTexts.{NameTexts}
use Rattle.doc_passes.specs.Numbers.{Numbers}
use Rattle.doc_parts.specs.declared.gathered.TreeParts.{TreeParts}
use Rattle.plan_doc.specs.Accepted.{tree_of}
use Rattle.doc_parts.specs.Document.{accepted, document, document_of_value, document_of_raw, policy_fault}
use Rattle.doc_parts.specs.Gathering.{AreTreeParts}
use Rattle.doc_parts.specs.TooMany.{clusters_fault}

-- what is made of the shape is made of the bytes
pub from_shape : (bytes : List ℕ) (d : Data) (raw : Raw) → json bytes ≡ Some d → document_at d ≡ Ok raw → document_of_raw raw ≡ document bytes
unfolding document document_of_value
from_shape bytes d raw read shaped = rw (read, shaped)

abbrev idle_tree_by : ℕ → List ClusterState → Tree
idle_tree_by top states = record { top = top; clusters = numbered_clusters states; demands = replicate (length (task_numbers (numbered_clusters states))) 0 }

module _ (raw : Raw) (parts : TreeParts) (are : AreTreeParts raw parts) where
  -- the tree of the parts is that of the document
  pub idle_tree_is : (names : NameTexts) (numbers : Numbers) → idle_tree parts.spec ≡ tree_of (accepted raw names numbers)
  idle_tree_is names numbers = ap₂ idle_tree_by are.top are.clusters

  -- and so is what is wrong with it
  pub fault_is : (version : ℕ) → version ≡ raw.version → clusters_fault (limits_of version).tasks (clusters_of parts.spec.clusters.items) ≡ policy_fault raw
  fault_is version same = ap₂ (λ (version : ℕ) (states : List ClusterState). clusters_fault (limits_of version).tasks (numbered_clusters states)) same are.clusters
