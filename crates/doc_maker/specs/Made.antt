-- Made document: the document of a seed, a number of groups and a number of tasks.
use Rattle.std.specs.Prelude.{ℕ, ◌+◌, ◌*◌, ◌/◌, ◌%◌, ◌==◌, ◌≤◌, List, [], ◌∷◌, ◌++◌, map, codes, decimal, Option, Some, None, if◌then◌else◌}
use Rattle.std.specs.List.{filter}
use Rattle.serde_json.specs.Written.{compact_text}
use Rattle.bwe_specs.specs.declared.limits.TheConstants.{MAX_MADE_GROUPS, MAX_MADE_TASKS}
use Rattle.bwe_specs.specs.Reports.{numbers}
use Rattle.raw_document.specs.Raw.{Link, Path, Task, Job, User, Group, of_task, Report, Raw}
use Rattle.doc_maker.specs.Layout.{document_value}

-- what a document is made from
pub record Size : Type 0 where
  pub seed : ℕ
  pub groups : ℕ
  pub tasks : ℕ

-- at least one group and at most 1,024, with at least as many tasks and at most 20,000
pub record IsSize (size : Size) : Type 0 where
  pub some_groups : 1 ≤ size.groups
  pub few_groups : size.groups ≤ MAX_MADE_GROUPS
  pub enough_tasks : size.groups ≤ size.tasks
  pub few_tasks : size.tasks ≤ MAX_MADE_TASKS

-- the number that is drawn at an index
abbrev pub drawn : Size → ℕ → ℕ
drawn size place = ((size.seed % 1_000_003) * 7_919 + place * 104_729) % 10_007

-- a letter and a number
abbrev pub numbered : List ℕ → ℕ → List ℕ
numbered letter number = letter ++ decimal number

abbrev pub link_name : ℕ → List ℕ
link_name link = numbered (codes "l") link

abbrev pub task_name : ℕ → List ℕ
task_name task = numbered (codes "t") task

abbrev pub reporter_name : ℕ → List ℕ
reporter_name reporter = numbered (codes "r") reporter

-- tasks go round among four reporters
abbrev pub owner_name : ℕ → List ℕ
owner_name task = reporter_name (task % 4)

-- ---- the network

abbrev pub made_link : Size → ℕ → Link
made_link size link = record {
  name = link_name link;
  from = codes "a";
  to = codes "b";
  capacity = 1_000 + drawn size link;
  owner = None;
}

-- a path over one link
abbrev pub made_path : ℕ → ℕ → Path
made_path weight link = record { weight = weight; links = link_name link ∷ [] }

-- two groups have the link of their first path group in common
abbrev pub made_path_groups : Size → ℕ → List (List Path)
made_path_groups size group =
    (made_path 1 (group / 2) ∷ [])
    ∷ (made_path 1 ((group + 1) % size.groups) ∷ made_path 2 ((group + 2) % size.groups) ∷ []) ∷ []

-- ---- the tree

-- the numbers of a group's tasks, rising
abbrev pub tasks_of : Size → ℕ → List ℕ
tasks_of size group = filter (λ task. task % size.groups == group) (numbers size.tasks)

abbrev pub made_task : ℕ → Task
made_task task = record { name = task_name task; reporter = owner_name task; weight = 1 }

-- the function of a group's task
abbrev pub made_function : Size → ℕ → List (ℕ × ℕ)
made_function size group =
    (0, 0) ∷ (500_000, 100 + drawn size group) ∷ (1_000_000, 200 + 2 * drawn size group) ∷ []

abbrev pub made_job : Size → ℕ → Job
made_job size group = record {
  name = codes "j0";
  function = None;
  task = made_function size group;
  tasks = map made_task (tasks_of size group);
}

-- the user of every third group has a function
abbrev pub user_function : ℕ → Option (List (ℕ × ℕ))
user_function group = if group % 3 == 0 then Some ((0, 0) ∷ (1_000_000, 2_000) ∷ []) else None

abbrev pub made_user : Size → ℕ → User
made_user size group =
    record { name = codes "u0"; function = user_function group; jobs = made_job size group ∷ [] }

abbrev pub made_group : Size → ℕ → Group
made_group size group = record {
  name = numbered (codes "g") group;
  from = codes "a";
  to = codes "b";
  function = None;
  path_groups = made_path_groups size group;
  users = made_user size group ∷ [];
}

-- ---- the document

-- each task has one report
abbrev pub made_report : Size → ℕ → Report
made_report size task = record {
  reporter = owner_name task;
  target = of_task (task_name task);
  amount = drawn size (size.groups + task);
}

abbrev pub made : Size → Raw
made size = record {
  version = 1;
  top = 1_000_000;
  links = map (made_link size) (numbers size.groups);
  groups = map (made_group size) (numbers size.groups);
  reporters = map reporter_name (numbers 4);
  script = map (made_report size) (numbers size.tasks);
  closings = [];
}

-- its bytes: compact JSON
unfoldable pub made_document : Size → List ℕ
made_document size = compact_text (document_value (made size))
