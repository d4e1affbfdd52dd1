-- Document: what an accepted document is, or the first refusal. The passes stand in the order of
-- their numbers.
use Rattle.std.specs.Prelude.{ℕ, List, map, Option, Some, None, Result, Ok, Err, ⊤}
use Rattle.serde_json.specs.Data.{Data}
use Rattle.bwe_specs.specs.declared.network.Closing.{Closing}
use Rattle.bwe_specs.specs.declared.report.Report.{Report}
use Rattle.bwe_specs.specs.Tree.{Cluster}
use Rattle.bwe_specs.specs.DocumentLimits.{limits_of}
use Rattle.wan_topology.specs.Network as networks
use Rattle.wan_topology.specs.declared.fault.TopologyFault.{TopologyFault}
use Rattle.bwe_specs.specs.Given as groups
use Rattle.path_groups.specs.Faults.{plan_fault}
use Rattle.tree_spec.specs.Numbering.{numbered_clusters}
use Rattle.tree_spec.specs.declared.fault.TreeFault.{TreeFault}
use Rattle.raw_document.specs.declared.doc_path.PathStep.{PathStep}
use Rattle.raw_document.specs.Json.{json}
use Rattle.raw_document.specs.Raw.{Raw}
use Rattle.raw_document.specs.Forms.{document_at}
use Rattle.doc_passes.specs.declared.limit.Overrun.{Overrun}
use Rattle.doc_passes.specs.Limits.{overrun}
use Rattle.doc_passes.specs.Ranges.{ranges}
use Rattle.doc_names.specs.NameTexts.{NameTexts}
use Rattle.doc_passes.specs.Names.{name_lists}
use Rattle.doc_passes.specs.Numbers.{Numbers, numbers}
use Rattle.cluster_parts.specs.Functions.{refused_in_groups}
use Rattle.cluster_parts.specs.TreeParts.{cluster_part}
use Rattle.doc_parts.specs.Links.{link_part}
use Rattle.doc_parts.specs.TooMany.{links_fault, clusters_fault}
use Rattle.doc_names.specs.Owners.{not_owned}
use Rattle.doc_refusals.specs.Refusals.{Refusal, not_json, bad_shape, above_limit, out_of_range, repeated_name, unknown_name, refused_function, refused_links, refused_paths, refused_tree, not_owner}

-- an accepted document, by numbers; the demands of its tasks are 0
pub record Accepted : Type 0 where
  pub version : ℕ
  pub top : ℕ
  pub clusters : List Cluster
  pub links : List networks.Link
  pub groups : List groups.Group
  pub script : List Report
  pub closings : List Closing
  pub names : NameTexts
  pub task_owners : List ℕ
  pub link_owners : List (Option ℕ)

-- ---- passes, the first refusal of which counts

infixl 10 ◌>>=◌
abbrev pub ◌>>=◌ : {A B : Type 0} → Result A Refusal → (A → Result B Refusal) → Result B Refusal
(Ok x) >>= f = f x
(Err refusal) >>= f = Err refusal

-- what a pass reads, or its refusal
abbrev pub refused_by : {A : Type 0} → (List PathStep → Refusal) → Result A (List PathStep)
    → Result A Refusal
refused_by number (Ok x) = Ok x
refused_by number (Err path) = Err (number path)

-- nothing, or the refusal of a cause
abbrev pub unless : {C : Type 0} → (C → Refusal) → Option C → Result ⊤ Refusal
unless number None = Ok tt
unless number (Some cause) = Err (number cause)

abbrev pub value_of : Option Data → Result Data Refusal
value_of None = Err not_json
value_of (Some value) = Ok value

abbrev pub over_limit : Overrun → Refusal
over_limit overrun = above_limit overrun.what overrun.count

-- ---- the parts

abbrev pub links_of : Raw → List networks.Link
links_of raw = map link_part raw.links

-- tasks are numbered from 0 in one walk
abbrev pub clusters_of : Raw → List Cluster
clusters_of raw = numbered_clusters (map (cluster_part raw.top) raw.groups)

-- what is wrong with the links, of which the version decides how many there may be
abbrev pub network_fault : Raw → Option TopologyFault
network_fault raw = links_fault (limits_of raw.version).links (links_of raw)

-- what is wrong with the tree, of whose tasks the version decides how many there may be
abbrev pub policy_fault : Raw → Option TreeFault
policy_fault raw = clusters_fault (limits_of raw.version).tasks (clusters_of raw)

abbrev pub accepted : Raw → NameTexts → Numbers → Accepted
accepted raw names numbers = record {
  version = raw.version;
  top = raw.top;
  clusters = clusters_of raw;
  links = links_of raw;
  groups = numbers.groups;
  script = numbers.script;
  closings = numbers.closings;
  names = names;
  task_owners = numbers.task_owners;
  link_owners = numbers.link_owners;
}

-- ---- the passes

-- refusals 7 to 11
unfoldable pub document_by : Raw → NameTexts → Numbers → Result Accepted Refusal
document_by raw names numbers = do
  functions_ok ← unless refused_function (refused_in_groups raw.top raw.groups)
  links_ok ← unless refused_links (network_fault raw)
  paths_ok ← unless refused_paths (plan_fault (networks.network_of (links_of raw)) numbers.groups)
  tree_ok ← unless refused_tree (policy_fault raw)
  owners_ok ← unless not_owner (not_owned numbers.task_owners numbers.link_owners 0 numbers.script)
  Ok (accepted raw names numbers)

-- refusals 6 to 11 of a document with these names
abbrev pub document_numbered : Raw → NameTexts → Result Accepted Refusal
document_numbered raw names = do
  numbers ← refused_by unknown_name (numbers names.links names.tasks names.reporters raw)
  document_by raw names numbers

-- refusals 5 to 11
abbrev pub document_named : Raw → Result Accepted Refusal
document_named raw = do
  names ← refused_by repeated_name (name_lists raw)
  document_numbered raw names

-- refusals 3 to 11
unfoldable pub document_of_raw : Raw → Result Accepted Refusal
document_of_raw raw = do
  counts_ok ← unless over_limit (overrun raw)
  ranges_ok ← refused_by out_of_range (ranges raw)
  document_named raw

-- refusals 2 to 11
unfoldable pub document_of_value : Data → Result Accepted Refusal
document_of_value value = do
  raw ← refused_by bad_shape (document_at value)
  document_of_raw raw

-- refusals 1 to 11
unfoldable pub document : List ℕ → Result Accepted Refusal
document bytes = do
  value ← value_of (json bytes)
  document_of_value value
