-- Names that stand once, and the numbers that they have.
use Rattle.std.specs.Prelude.{ℕ, List, [], ◌∷◌, ◌++◌, Result, Ok, Err, position, if◌then◌else◌}
use Rattle.std.specs.List.{list_any}
use Rattle.std.specs.Str.{bytes_eq}
use Rattle.raw_document.specs.declared.key.DocKey.{DocKey}
use Rattle.raw_document.specs.declared.key.DocKey.TheVariants as keys
use Rattle.raw_document.specs.declared.doc_path.PathStep.{PathStep}
use Rattle.raw_document.specs.declared.doc_path.PathStep.TheVariants.{Key}
use Rattle.raw_document.specs.Reading.{◌>>=◌, under, or_fault, fold_each}
use Rattle.raw_document.specs.Raw.{Link, Task, Job, User, Group, Raw}
use Rattle.doc_names.specs.NameTexts.{NameTexts}

-- the names before with this one at their end, or a fault where it stood among them
unfoldable pub fresh : List (List ℕ) → List ℕ → Result (List (List ℕ)) (List PathStep)
fresh before name = if list_any (bytes_eq name) before then Err [] else Ok (before ++ name ∷ [])

-- the number of a name, which is its place among the names, or a fault where it does not stand
unfoldable pub number_in : List (List ℕ) → List ℕ → Result ℕ (List PathStep)
number_in names name = or_fault (position (bytes_eq name) names)

-- ---- repeated names, in the order of the walk

-- the name of an object
abbrev pub fresh_name : List (List ℕ) → List ℕ → Result (List (List ℕ)) (List PathStep)
fresh_name before name = under (Key keys.Name) (fresh before name)

-- of a list that is a member
abbrev pub fold_member : {S A : Type 0} → DocKey → (S → A → Result S (List PathStep)) → S → List A
    → Result S (List PathStep)
fold_member key step state items = under (Key key) (fold_each step 0 state items)

abbrev pub add_link : List (List ℕ) → Link → Result (List (List ℕ)) (List PathStep)
add_link before link = fresh_name before link.name

abbrev pub add_task : List (List ℕ) → Task → Result (List (List ℕ)) (List PathStep)
add_task before task = fresh_name before task.name

-- the names of the jobs of one user, and of all tasks
unfoldable pub add_job : List (List ℕ) × List (List ℕ) → Job
    → Result (List (List ℕ) × List (List ℕ)) (List PathStep)
add_job before job = do
  names ← fresh_name before.0 job.name
  tasks ← fold_member keys.Tasks add_task before.1 job.tasks
  Ok (names, tasks)

-- the names of the users of one group, and of all tasks
unfoldable pub add_user : List (List ℕ) × List (List ℕ) → User
    → Result (List (List ℕ) × List (List ℕ)) (List PathStep)
add_user before user = do
  names ← fresh_name before.0 user.name
  jobs ← fold_member keys.Jobs add_job ([], before.1) user.jobs
  Ok (names, jobs.1)

-- the names of the groups, and of all tasks
unfoldable pub add_group : List (List ℕ) × List (List ℕ) → Group
    → Result (List (List ℕ) × List (List ℕ)) (List PathStep)
add_group before group = do
  names ← fresh_name before.0 group.name
  users ← fold_member keys.Users add_user ([], before.1) group.users
  Ok (names, users.1)

-- the names of a document, each of which stands once, in the order of the walk
unfoldable pub name_lists : Raw → Result NameTexts (List PathStep)
name_lists raw = do
  links ← fold_member keys.Links add_link [] raw.links
  groups ← fold_member keys.Groups add_group ([], []) raw.groups
  reporters ← fold_member keys.Reporters fresh [] raw.reporters
  Ok (record { links = links; groups = groups.0; tasks = groups.1; reporters = reporters })
