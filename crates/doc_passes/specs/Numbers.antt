-- The document with numbers in place of the names that refer to others.
use Rattle.std.specs.Prelude.{ℕ, List, [], ◌∷◌, ◌++◌, Option, Some, None, Result, Ok}
use Rattle.raw_document.specs.declared.key.DocKey.TheVariants as keys
use Rattle.raw_document.specs.declared.doc_path.PathStep.{PathStep}
use Rattle.raw_document.specs.declared.doc_path.PathStep.TheVariants.{Key}
use Rattle.raw_document.specs.Reading.{◌>>=◌, under, each}
use Rattle.raw_document.specs.Raw as raw
use Rattle.bwe_specs.specs.declared.network.Closing.{Closing}
use Rattle.bwe_specs.specs.declared.report.Target.{Target}
use Rattle.bwe_specs.specs.declared.report.Target.TheVariants as targets
use Rattle.bwe_specs.specs.declared.report.Report.{Report}
use Rattle.bwe_specs.specs.Paths.{Path, PathGroups}
use Rattle.bwe_specs.specs.Given.{Group}
use Rattle.doc_passes.specs.Names.{number_in, fold_member}

-- the owners are by number: of each link, where it has one, and of each task in the order of the
-- walk
pub record Numbers : Type 0 where
  pub link_owners : List (Option ℕ)
  pub groups : List Group
  pub task_owners : List ℕ
  pub script : List Report
  pub closings : List Closing

-- ---- the owners of links

abbrev pub owner_number : List (List ℕ) → Option (List ℕ) → Result (Option ℕ) (List PathStep)
owner_number reporters None = Ok None
owner_number reporters (Some name) =
    under (Key keys.Owner) (number_in reporters name) >>= λ owner. Ok (Some owner)

abbrev pub link_owner : List (List ℕ) → raw.Link → Result (Option ℕ) (List PathStep)
link_owner reporters link = owner_number reporters link.owner

-- ---- the path groups of a group

unfoldable pub path_numbers : List (List ℕ) → raw.Path → Result Path (List PathStep)
path_numbers links path = do
  numbers ← under (Key keys.Links) (each (number_in links) 0 path.links)
  Ok (record { weight = path.weight; links = numbers })

abbrev pub path_groups_numbers : List (List ℕ) → List (List raw.Path)
    → Result PathGroups (List PathStep)
path_groups_numbers links path_groups =
    under (Key keys.Paths) (each (each (path_numbers links) 0) 0 path_groups)

-- ---- the owners of tasks, put behind those before

unfoldable pub add_task_owner : List (List ℕ) → List ℕ → raw.Task → Result (List ℕ) (List PathStep)
add_task_owner reporters before task = do
  owner ← under (Key keys.Reporter) (number_in reporters task.reporter)
  Ok (before ++ owner ∷ [])

abbrev pub add_job_owners : List (List ℕ) → List ℕ → raw.Job → Result (List ℕ) (List PathStep)
add_job_owners reporters before job =
    fold_member keys.Tasks (add_task_owner reporters) before job.tasks

abbrev pub add_user_owners : List (List ℕ) → List ℕ → raw.User → Result (List ℕ) (List PathStep)
add_user_owners reporters before user =
    fold_member keys.Jobs (add_job_owners reporters) before user.jobs

-- ---- the groups, and the owners of their tasks

abbrev pub group_part : raw.Group → PathGroups → Group
group_part group path_groups =
    record { from = group.from; to = group.to; path_groups = path_groups }

unfoldable pub add_group_numbers : List (List ℕ) → List (List ℕ) → List Group × List ℕ → raw.Group
    → Result (List Group × List ℕ) (List PathStep)
add_group_numbers links reporters before group = do
  path_groups ← path_groups_numbers links group.path_groups
  owners ← fold_member keys.Users (add_user_owners reporters) before.1 group.users
  Ok (before.0 ++ group_part group path_groups ∷ [], owners)

-- ---- the script and the closings

abbrev pub target_number : List (List ℕ) → List (List ℕ) → raw.Target
    → Result Target (List PathStep)
target_number links tasks (raw.of_task name) =
    under (Key keys.Task) (number_in tasks name) >>= λ task. Ok (targets.Task task)
target_number links tasks (raw.of_link name) =
    under (Key keys.Link) (number_in links name) >>= λ link. Ok (targets.Link link)

unfoldable pub report_numbers : List (List ℕ) → List (List ℕ) → List (List ℕ) → raw.Report
    → Result Report (List PathStep)
report_numbers links tasks reporters report = do
  reporter ← under (Key keys.Reporter) (number_in reporters report.reporter)
  target ← target_number links tasks report.target
  Ok (record { reporter = reporter; target = target; amount = report.amount })

unfoldable pub closing_numbers : List (List ℕ) → raw.Closing → Result Closing (List PathStep)
closing_numbers links closing = do
  link ← under (Key keys.Link) (number_in links closing.link)
  Ok (record { link = link; share = closing.share })

-- ---- the whole, in the order of the walk

unfoldable pub numbers : List (List ℕ) → List (List ℕ) → List (List ℕ) → raw.Raw
    → Result Numbers (List PathStep)
numbers links tasks reporters raw = do
  link_owners ← under (Key keys.Links) (each (link_owner reporters) 0 raw.links)
  groups ← fold_member keys.Groups (add_group_numbers links reporters) ([], []) raw.groups
  script ← under (Key keys.Script) (each (report_numbers links tasks reporters) 0 raw.script)
  closings ← under (Key keys.Closings) (each (closing_numbers links) 0 raw.closings)
  Ok (record {
    link_owners = link_owners;
    groups = groups.0;
    task_owners = groups.1;
    script = script;
    closings = closings;
  })
