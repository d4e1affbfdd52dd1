-- How a document of version 1 stands as a JSON value: the keys of each object in the order of their
-- bytes.
use Rattle.std.specs.Prelude.{ℕ, List, [], ◌∷◌, map, Option, Some, None}
use Rattle.serde_json.specs.Data.{Data, number, unsigned, string, array, object, Members, no_members, member}
use Rattle.serde_json.specs.View.{items_of}
use Rattle.raw_document.specs.declared.key.DocKey.{DocKey}
use Rattle.raw_document.specs.declared.key.DocKey.TheVariants as keys
use Rattle.raw_document.specs.Words.{word}
use Rattle.raw_document.specs.Raw.{Link, Path, Task, Job, User, Group, Target, of_task, of_link, Report, Raw}

-- ---- values

abbrev pub whole_value : ℕ → Data
whole_value n = number (unsigned n)

abbrev pub list_value : {A : Type 0} → (A → Data) → List A → Data
list_value value items = array (items_of (map value items))

abbrev pub members_with : List (DocKey × Data) → Members
members_with [] = no_members
members_with (found ∷ rest) = member (word found.0) found.1 (members_with rest)

abbrev pub object_with : List (DocKey × Data) → Data
object_with members = object (members_with members)

-- ---- functions

abbrev pub point_value : ℕ × ℕ → Data
point_value point = list_value whole_value (point.0 ∷ point.1 ∷ [])

abbrev pub function_value : List (ℕ × ℕ) → Data
function_value points = list_value point_value points

-- a function, where there is one, before the other members
abbrev pub with_function : Option (List (ℕ × ℕ)) → List (DocKey × Data) → List (DocKey × Data)
with_function None members = members
with_function (Some points) members = (keys.Function, function_value points) ∷ members

-- ---- the objects

abbrev pub link_value : Link → Data
link_value link = object_with (
    (keys.Capacity, whole_value link.capacity) ∷ (keys.From, string link.from)
    ∷ (keys.Name, string link.name)
    ∷ (keys.To, string link.to) ∷ [])

abbrev pub path_value : Path → Data
path_value path =
    object_with ((keys.Links, list_value string path.links) ∷ (keys.Weight, whole_value path.weight)
    ∷ [])

abbrev pub task_value : Task → Data
task_value task =
    object_with ((keys.Name, string task.name) ∷ (keys.Reporter, string task.reporter) ∷ [])

abbrev pub job_value : Job → Data
job_value job = object_with (with_function job.function (
    (keys.Name, string job.name) ∷ (keys.Task, function_value job.task)
    ∷ (keys.Tasks, list_value task_value job.tasks) ∷ []))

abbrev pub user_value : User → Data
user_value user = object_with (with_function user.function (
    (keys.Jobs, list_value job_value user.jobs) ∷ (keys.Name, string user.name) ∷ []))

abbrev pub group_value : Group → Data
group_value group = object_with ((keys.From, string group.from) ∷ with_function group.function (
    (keys.Name, string group.name)
    ∷ (keys.Paths, list_value (list_value path_value) group.path_groups)
    ∷ (keys.To, string group.to) ∷ (keys.Users, list_value user_value group.users) ∷ []))

-- an amount that a reporter told of a task or a link
abbrev pub told_value : List ℕ → ℕ → Target → Data
told_value reporter amount (of_task task) = object_with (
    (keys.Demand, whole_value amount) ∷ (keys.Reporter, string reporter) ∷ (keys.Task, string task)
    ∷ [])
told_value reporter amount (of_link link) = object_with (
    (keys.Capacity, whole_value amount) ∷ (keys.Link, string link)
    ∷ (keys.Reporter, string reporter) ∷ [])

abbrev pub report_value : Report → Data
report_value report = told_value report.reporter report.amount report.target

-- a document without closings
abbrev pub document_value : Raw → Data
document_value document = object_with (
    (keys.Groups, list_value group_value document.groups)
    ∷ (keys.Links, list_value link_value document.links)
    ∷ (keys.Reporters, list_value string document.reporters)
    ∷ (keys.Script, list_value report_value document.script)
    ∷ (keys.Top, whole_value document.top) ∷ (keys.Version, whole_value document.version) ∷ [])
