-- A document of these parts is the definition's, and meets the conditions of calls that take them.
use Rattle.std.proofs.Common.{◌≡◌, ℕ, ◌<◌, List, length, map, replicate, None, refl, sym, ap, subst, ◌∙◌, arith}
use Rattle.std.specs.Prelude.{All}
use Rattle.std.proofs.lemmas.List.{length-map, length-replicate}
use Rattle.std.proofs.lemmas.List.Elements.{All-same}
use Rattle.wan_topology.specs.Network.{Network, network_of}
use Rattle.bwe_specs.specs.Given.{Group, path_groups_of}
use Rattle.path_groups.specs.Plan.{IsBuiltOn}
use Rattle.bwe_specs.specs.Paths.{PathGroups}
use Rattle.tree_spec.specs.States.{cluster_tasks}
use Rattle.tree_spec.specs.Numbering.{numbered_cluster}
use Rattle.tree_spec.specs.Trees.{Tree, task_numbers}
use Rattle.doc_names.specs.declared.Names.{Names}
use Rattle.raw_document.specs.Raw as raw
use Rattle.doc_passes.specs.declared.numbers.DocumentNumbers.{DocumentNumbers}
use Rattle.plan_doc.specs.declared.document.Document as code
use Rattle.doc_passes.specs.Counts.{task_count}
use Rattle.doc_names.specs.NameTexts.{texts_of}
use Rattle.doc_passes.specs.Numbers.{Numbers, numbers}
use Rattle.doc_passes.specs.NumbersView.{numbers_view}
use Rattle.cluster_parts.specs.TreeParts.{cluster_part}
use Rattle.doc_names.specs.Owners.{not_owned}
use Rattle.doc_parts.specs.Document.{accepted, links_of, clusters_of}
use Rattle.plan_doc.specs.Accepted.{tree_of, IsDocumentOf}
use Rattle.doc_passes.specs.Passed.{HasOwnerBelow, IsReport, IsClosing, HasPassed}
use Rattle.plan_doc.specs.Conditions.{link_count, tasks_in, reporter_count, IsByOwner, IsUsable}
use Rattle.tree_spec.proofs.Numbers.{length-numbered}
use Rattle.doc_parts.proofs.NodeFacts.{length-task_numbers}
use Rattle.plan_doc.proofs.PlanFacts.{length-capacities}
use Rattle.doc_names.proofs.OwnerFacts.{IsOwned, by_owners}

pub is_document : (raw : raw.Raw) (version : ℕ) (names : Names) (numbers : DocumentNumbers) (tree : Tree) (topology : Network) (plan : List PathGroups)
    → version ≡ raw.version → tree ≡ tree_of (accepted raw (texts_of names) (numbers_view numbers)) → topology ≡ network_of (links_of raw) → plan ≡ path_groups_of (numbers_view numbers).groups
    → IsDocumentOf (accepted raw (texts_of names) (numbers_view numbers)) (record { version = version; tree = tree; topology = topology; plan = plan; script = numbers.script; closings = numbers.closings; names = names; task_owners = numbers.task_owners; link_owners = numbers.link_owners })
is_document raw version names numbers tree topology plan version_is tree_is topology_is plan_is = record {
  version = version_is;
  tree = tree_is;
  topology = topology_is;
  plan = plan_is;
  script = refl;
  closings = refl;
  names = refl;
  task_owners = refl;
  link_owners = refl;
}

pub usable : (document : code.Document) (raw : raw.Raw) (numbers : Numbers) → HasPassed raw (texts_of document.names) numbers → IsDocumentOf (accepted raw (texts_of document.names) numbers) document
    → IsBuiltOn document.topology document.plan → not_owned numbers.task_owners numbers.link_owners 0 numbers.script ≡ None → IsUsable document
usable document raw numbers passed is built_on owned =
    let known = passed.each_numbered in
    let named = passed.each_named in
    let links_are : length raw.links ≡ link_count document = sym (ap (λ (t : Network). length t.capacities) is.topology ∙ length-capacities raw.links) in
    let numbered_tasks : ℕ = length (task_numbers (clusters_of raw)) in
    let demands_are : length document.tree.demands ≡ numbered_tasks = ap (λ (t : Tree). length t.demands) is.tree ∙ length-replicate numbered_tasks 0 in
    let tasks_are : task_count raw.groups ≡ tasks_in document = sym (demands_are ∙ length-task_numbers raw.top raw.groups) in
    let reporters_are : length raw.reporters ≡ reporter_count document = sym named.reporters in
    let plan_is : length document.plan ≡ length raw.groups = ap length is.plan ∙ length-map numbers.groups (λ (group : Group). group.path_groups) ∙ known.groups in
    let clusters_are : length document.tree.clusters ≡ length raw.groups = ap (λ (t : Tree). length t.clusters) is.tree ∙ length-numbered cluster_tasks numbered_cluster 0 (map (cluster_part raw.top) raw.groups) ∙ length-map raw.groups (cluster_part raw.top) in
    let owners_below : All (λ owner. owner < reporter_count document) numbers.task_owners = subst (λ n. All (λ owner. owner < n) numbers.task_owners) reporters_are known.task_owners_below in
    let links_below : All (HasOwnerBelow (reporter_count document)) numbers.link_owners = subst (λ n. All (HasOwnerBelow n) numbers.link_owners) reporters_are known.link_owners_below in
    let reports_by_links : All (IsReport (link_count document) (task_count raw.groups) (length raw.reporters)) numbers.script = subst (λ n. All (IsReport n (task_count raw.groups) (length raw.reporters)) numbers.script) links_are known.reports in
    let reports_by_tasks : All (IsReport (link_count document) (tasks_in document) (length raw.reporters)) numbers.script = subst (λ n. All (IsReport (link_count document) n (length raw.reporters)) numbers.script) tasks_are reports_by_links in
    let reports_fit : All (IsReport (link_count document) (tasks_in document) (reporter_count document)) numbers.script = subst (λ n. All (IsReport (link_count document) (tasks_in document) n) numbers.script) reporters_are reports_by_tasks in
    let closings_fit : All (IsClosing (link_count document)) numbers.closings = subst (λ n. All (IsClosing n) numbers.closings) links_are known.closings in
    let by_task_owners : All (IsOwned document.task_owners.items numbers.link_owners) numbers.script = subst (λ owners. All (IsOwned owners numbers.link_owners) numbers.script) (sym is.task_owners) (by_owners numbers.task_owners numbers.link_owners 0 numbers.script owned) in
    let by_all_owners : All (IsByOwner document) numbers.script = subst (λ owners. All (IsOwned document.task_owners.items owners) numbers.script) (sym is.link_owners) by_task_owners in
    let script_length : length document.script.items ≡ length raw.script = ap length is.script ∙ known.script in
    record {
      built_on = built_on;
      groups = clusters_are ∙ sym plan_is;
      idle = ap (λ (t : Tree). t.demands) is.tree ∙ ap (λ n. replicate n 0) (sym demands_are);
      link_names = named.links ∙ links_are;
      group_names = named.groups ∙ sym plan_is;
      task_names = named.tasks ∙ tasks_are;
      few_reporters = let few = passed.few.reporters in omega arith;
      task_owners = ap length is.task_owners ∙ known.task_owners ∙ tasks_are;
      task_owners_below = All-same (λ owner. owner < reporter_count document) document.task_owners.items numbers.task_owners is.task_owners owners_below;
      link_owners = ap length is.link_owners ∙ known.link_owners ∙ links_are;
      link_owners_below = All-same (HasOwnerBelow (reporter_count document)) document.link_owners.items numbers.link_owners is.link_owners links_below;
      few_reports = let few = passed.few.script in omega arith;
      reports = All-same (IsReport (link_count document) (tasks_in document) (reporter_count document)) document.script.items numbers.script is.script reports_fit;
      by_owners = All-same (IsByOwner document) document.script.items numbers.script is.script by_all_owners;
      closings = All-same (IsClosing (link_count document)) document.closings.items numbers.closings is.closings closings_fit;
    }
