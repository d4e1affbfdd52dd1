-- The shape of each object of a document, by the table of keys.
use Rattle.std.specs.Prelude.{ℕ, ◌==◌, ◌&&◌, ◌||◌, Bool, not, List, [], ◌∷◌, Result, Ok, is_some, unwrap_or, if◌then◌else◌}
use Rattle.serde_json.specs.Data.{Data}
use Rattle.serde_json.specs.Find.{get}
use Rattle.raw_document.specs.declared.key.DocKey.{DocKey}
use Rattle.raw_document.specs.declared.key.DocKey.TheVariants as keys
use Rattle.raw_document.specs.declared.doc_path.PathStep.{PathStep}
use Rattle.raw_document.specs.Words.{word}
use Rattle.raw_document.specs.Reading.{◌>>=◌}
use Rattle.raw_document.specs.Shape.{whole, text, function, field, optional, object, list_of}
use Rattle.raw_document.specs.Raw.{Link, Path, Task, Job, User, Group, of_task, of_link, Report, Closing, Raw}

-- ---- what a version adds

abbrev pub link_others : ℕ → List DocKey
link_others version = if version == 1 then [] else keys.Owner ∷ []

abbrev pub task_others : ℕ → List DocKey
task_others version = if version == 1 || version == 2 then [] else keys.Weight ∷ []

-- ---- what may be absent

-- a weight that is absent is 1
abbrev pub weight_at : Data → Result ℕ (List PathStep)
weight_at d = optional keys.Weight whole d >>= λ weight. Ok (unwrap_or weight 1)

-- ---- the objects

unfoldable pub link_at : ℕ → Data → Result Link (List PathStep)
link_at version d = do
  object_ok ← object (keys.Name ∷ keys.From ∷ keys.To ∷ keys.Capacity ∷ []) (link_others version) d
  name ← field keys.Name text d
  from ← field keys.From text d
  to ← field keys.To text d
  capacity ← field keys.Capacity whole d
  owner ← optional keys.Owner text d
  Ok (record { name = name; from = from; to = to; capacity = capacity; owner = owner })

unfoldable pub path_at : Data → Result Path (List PathStep)
path_at d = do
  object_ok ← object (keys.Weight ∷ keys.Links ∷ []) [] d
  weight ← field keys.Weight whole d
  links ← field keys.Links (list_of text) d
  Ok (record { weight = weight; links = links })

unfoldable pub task_at : ℕ → Data → Result Task (List PathStep)
task_at version d = do
  object_ok ← object (keys.Name ∷ keys.Reporter ∷ []) (task_others version) d
  name ← field keys.Name text d
  reporter ← field keys.Reporter text d
  weight ← weight_at d
  Ok (record { name = name; reporter = reporter; weight = weight })

unfoldable pub job_at : ℕ → Data → Result Job (List PathStep)
job_at version d = do
  object_ok ← object (keys.Name ∷ keys.Task ∷ keys.Tasks ∷ []) (keys.Function ∷ []) d
  name ← field keys.Name text d
  configured ← optional keys.Function function d
  task ← field keys.Task function d
  tasks ← field keys.Tasks (list_of (task_at version)) d
  Ok (record { name = name; function = configured; task = task; tasks = tasks })

unfoldable pub user_at : ℕ → Data → Result User (List PathStep)
user_at version d = do
  object_ok ← object (keys.Name ∷ keys.Jobs ∷ []) (keys.Function ∷ []) d
  name ← field keys.Name text d
  configured ← optional keys.Function function d
  jobs ← field keys.Jobs (list_of (job_at version)) d
  Ok (record { name = name; function = configured; jobs = jobs })

unfoldable pub group_at : ℕ → Data → Result Group (List PathStep)
group_at version d = do
  object_ok ← object (keys.Name ∷ keys.From ∷ keys.To ∷ keys.Paths ∷ keys.Users ∷ [])
      (keys.Function ∷ []) d
  name ← field keys.Name text d
  from ← field keys.From text d
  to ← field keys.To text d
  configured ← optional keys.Function function d
  path_groups ← field keys.Paths (list_of (list_of path_at)) d
  users ← field keys.Users (list_of (user_at version)) d
  Ok (record {
    name = name;
    from = from;
    to = to;
    function = configured;
    path_groups = path_groups;
    users = users;
  })

-- ---- an entry of the script

-- From version 2 on, one of these keys alone makes an entry a report of a capacity.
unfoldable pub is_of_link : ℕ → Data → Bool
is_of_link version d =
    not (version == 1) && (is_some (get (word keys.Link) d) || is_some (get (word keys.Capacity) d))

unfoldable pub demand_at : Data → Result Report (List PathStep)
demand_at d = do
  object_ok ← object (keys.Reporter ∷ keys.Task ∷ keys.Demand ∷ []) [] d
  reporter ← field keys.Reporter text d
  task ← field keys.Task text d
  demand ← field keys.Demand whole d
  Ok (record { reporter = reporter; target = of_task task; amount = demand })

unfoldable pub capacity_at : Data → Result Report (List PathStep)
capacity_at d = do
  object_ok ← object (keys.Reporter ∷ keys.Link ∷ keys.Capacity ∷ []) [] d
  reporter ← field keys.Reporter text d
  link ← field keys.Link text d
  capacity ← field keys.Capacity whole d
  Ok (record { reporter = reporter; target = of_link link; amount = capacity })

unfoldable pub report_at : ℕ → Data → Result Report (List PathStep)
report_at version d = if is_of_link version d then capacity_at d else demand_at d

unfoldable pub closing_at : Data → Result Closing (List PathStep)
closing_at d = do
  object_ok ← object (keys.Link ∷ keys.Share ∷ []) [] d
  link ← field keys.Link text d
  share ← field keys.Share whole d
  Ok (record { link = link; share = share })

-- closings that are absent are none
abbrev pub closings_at : Data → Result (List Closing) (List PathStep)
closings_at d =
    optional keys.Closings (list_of closing_at) d >>= λ closings. Ok (unwrap_or closings [])

-- ---- the document

unfoldable pub document_at : Data → Result Raw (List PathStep)
document_at d = do
  object_ok ← object
      (keys.Version ∷ keys.Top ∷ keys.Links ∷ keys.Groups ∷ keys.Reporters ∷ keys.Script ∷ [])
      (keys.Closings ∷ []) d
  version ← field keys.Version whole d
  top ← field keys.Top whole d
  links ← field keys.Links (list_of (link_at version)) d
  groups ← field keys.Groups (list_of (group_at version)) d
  reporters ← field keys.Reporters (list_of text) d
  script ← field keys.Script (list_of (report_at version)) d
  closings ← closings_at d
  Ok (record {
    version = version;
    top = top;
    links = links;
    groups = groups;
    reporters = reporters;
    script = script;
    closings = closings;
  })
