-- An accepted document meets the conditions of the calls that take its parts.
use Rattle.std.specs.Prelude.{◌≡◌, ℕ, ◌<◌, ◌≤◌, length, replicate, Some, All}
use Rattle.bwe_specs.specs.declared.limits.TheConstants.{MAX_REPORTERS, MAX_REPORTS}
use Rattle.bwe_specs.specs.declared.report.Report.{Report}
use Rattle.path_groups.specs.Plan.{IsBuiltOn}
use Rattle.plan_doc.specs.declared.document.Document.{Document}
use Rattle.doc_names.specs.NameTexts.{texts_of}
use Rattle.doc_names.specs.Owners.{owner_of}
use Rattle.doc_passes.specs.Passed.{HasOwnerBelow, IsReport, IsClosing}

-- how many links, tasks and reporters there are
abbrev pub link_count : Document → ℕ
link_count document = length document.topology.capacities

abbrev pub tasks_in : Document → ℕ
tasks_in document = length document.tree.demands

abbrev pub reporter_count : Document → ℕ
reporter_count document = length (texts_of document.names).reporters

-- the reporter of the entry owns its task or link
abbrev pub IsByOwner : Document → Report → Type 0
IsByOwner document report =
    owner_of document.task_owners.items document.link_owners.items report.target
    ≡ Some report.reporter

pub record IsUsable (document : Document) : Type 0 where
  -- the plan was built on the topology, the tree has the plan's groups, and every demand is 0
  pub built_on : IsBuiltOn document.topology document.plan
  pub groups : length document.tree.clusters ≡ length document.plan
  pub idle : document.tree.demands ≡ replicate (tasks_in document) 0
  -- there is a name for each link, group and task, and there are few reporters
  pub link_names : length (texts_of document.names).links ≡ link_count document
  pub group_names : length (texts_of document.names).groups ≡ length document.plan
  pub task_names : length (texts_of document.names).tasks ≡ tasks_in document
  pub few_reporters : reporter_count document ≤ MAX_REPORTERS
  -- each task has one owner, and each link at most one
  pub task_owners : length document.task_owners.items ≡ tasks_in document
  pub task_owners_below : All (λ owner. owner < reporter_count document) document.task_owners.items
  pub link_owners : length document.link_owners.items ≡ link_count document
  pub link_owners_below : All (HasOwnerBelow (reporter_count document)) document.link_owners.items
  -- the script fits a log, and each report is by the owner of its task or link
  pub few_reports : length document.script.items ≤ MAX_REPORTS
  pub reports : All (IsReport (link_count document) (tasks_in document) (reporter_count document))
      document.script.items
  pub by_owners : All (IsByOwner document) document.script.items
  -- closings are of links that there are
  pub closings : All (IsClosing (link_count document)) document.closings.items
