-- Numbers and names in their ranges, in the order of the walk. The ranges stand here as numbers, so
-- that a constant of the code cannot move them.
use Rattle.std.specs.Prelude.{ℕ, ◌==◌, ◌&&◌, ◌||◌, Bool, List, length, Option, Some, None, Result, Ok, nat_le, ⊤}
use Rattle.std.specs.List.{list_all}
use Rattle.raw_document.specs.declared.key.DocKey.{DocKey}
use Rattle.raw_document.specs.declared.key.DocKey.TheVariants as keys
use Rattle.raw_document.specs.declared.doc_path.PathStep.{PathStep}
use Rattle.raw_document.specs.declared.doc_path.PathStep.TheVariants.{Key}
use Rattle.raw_document.specs.Reading.{◌>>=◌, under, check, check_each}
use Rattle.raw_document.specs.Raw.{Link, Path, Task, Job, User, Group, Target, of_task, of_link, Report, Closing, Raw}

-- a letter, a digit, `-`, `_` or `.`
abbrev pub is_name_byte : ℕ → Bool
is_name_byte byte =
    (nat_le 97 byte && nat_le byte 122) || (nat_le 65 byte && nat_le byte 90)
    || (nat_le 48 byte && nat_le byte 57)
    || byte == 45 || byte == 95 || byte == 46

-- 1 to 64 of them
unfoldable pub is_name : List ℕ → Bool
is_name name = nat_le 1 (length name) && nat_le (length name) 64 && list_all is_name_byte name

-- low to high
abbrev pub is_within : ℕ → ℕ → ℕ → Bool
is_within low high number = nat_le low number && nat_le number high

-- a name, wherever it stands
abbrev pub name_range : List ℕ → Result ⊤ (List PathStep)
name_range name = check (is_name name)

-- a member that has to pass
abbrev pub member_range : DocKey → Bool → Result ⊤ (List PathStep)
member_range key passes = under (Key key) (check passes)

abbrev pub owner_range : Option (List ℕ) → Result ⊤ (List PathStep)
owner_range None = Ok tt
owner_range (Some name) = member_range keys.Owner (is_name name)

-- a member that is a list
abbrev pub items_range : {A : Type 0} → DocKey → (A → Result ⊤ (List PathStep)) → List A
    → Result ⊤ (List PathStep)
items_range key range items = under (Key key) (check_each range items)

unfoldable pub link_range : Link → Result ⊤ (List PathStep)
link_range link = do
  name ← member_range keys.Name (is_name link.name)
  from ← member_range keys.From (is_name link.from)
  to ← member_range keys.To (is_name link.to)
  owner_range link.owner

unfoldable pub path_range : Path → Result ⊤ (List PathStep)
path_range path = items_range keys.Links name_range path.links

unfoldable pub task_range : Task → Result ⊤ (List PathStep)
task_range task = do
  name ← member_range keys.Name (is_name task.name)
  reporter ← member_range keys.Reporter (is_name task.reporter)
  member_range keys.Weight (is_within 1 1_000 task.weight)

unfoldable pub job_range : Job → Result ⊤ (List PathStep)
job_range job = do
  name ← member_range keys.Name (is_name job.name)
  items_range keys.Tasks task_range job.tasks

unfoldable pub user_range : User → Result ⊤ (List PathStep)
user_range user = do
  name ← member_range keys.Name (is_name user.name)
  items_range keys.Jobs job_range user.jobs

unfoldable pub group_range : Group → Result ⊤ (List PathStep)
group_range group = do
  name ← member_range keys.Name (is_name group.name)
  from ← member_range keys.From (is_name group.from)
  to ← member_range keys.To (is_name group.to)
  paths ← items_range keys.Paths (check_each path_range) group.path_groups
  items_range keys.Users user_range group.users

abbrev pub target_range : Target → ℕ → Result ⊤ (List PathStep)
target_range (of_task name) amount =
    member_range keys.Task (is_name name)
    >>= λ _. member_range keys.Demand (is_within 0 1_000_000_000_000 amount)
target_range (of_link name) amount =
    member_range keys.Link (is_name name)
    >>= λ _. member_range keys.Capacity (is_within 0 1_000_000_000_000 amount)

unfoldable pub report_range : Report → Result ⊤ (List PathStep)
report_range report =
    member_range keys.Reporter (is_name report.reporter)
    >>= λ _. target_range report.target report.amount

unfoldable pub closing_range : Closing → Result ⊤ (List PathStep)
closing_range closing = do
  link ← member_range keys.Link (is_name closing.link)
  member_range keys.Share (is_within 0 1_000_000_000 closing.share)

unfoldable pub ranges : Raw → Result ⊤ (List PathStep)
ranges raw = do
  version ← member_range keys.Version (is_within 1 4 raw.version)
  top ← member_range keys.Top (is_within 1 1_000_000_000 raw.top)
  links ← items_range keys.Links link_range raw.links
  groups ← items_range keys.Groups group_range raw.groups
  reporters ← items_range keys.Reporters name_range raw.reporters
  script ← items_range keys.Script report_range raw.script
  items_range keys.Closings closing_range raw.closings
