-- What the slots of each object hold of the members that were read.
use Rattle.std.specs.Prelude.{◌≡◌, ℕ, true, List, [], ◌∷◌, Option, None, Result, Ok, option_map}
use Rattle.std.specs.Global.{Vec}
use Rattle.serde_json.specs.Data.{Data, object, Members}
use Rattle.raw_document.specs.declared.key.DocKey.{DocKey}
use Rattle.raw_document.specs.declared.key.DocKey.TheVariants as keys
use Rattle.raw_document.specs.declared.doc_path.PathStep.{PathStep}
use Rattle.raw_document.specs.Reading.{each_view}
use Rattle.raw_document.specs.Shape.{whole, text, function, list_of, optional, has_only}
use Rattle.raw_document.specs.Raw.{name_view, link_view, path_group_view, task_view, job_view, user_view, group_view, report_view, closing_view}
use Rattle.raw_document.specs.Forms.{link_others, task_others, link_at, path_at, task_at, job_at, user_at, group_at, report_at, closing_at}
use Rattle.raw_reader.specs.declared.groups.LinkSlots.{LinkSlots}
use Rattle.raw_reader.specs.declared.groups.PathSlots.{PathSlots}
use Rattle.raw_reader.specs.declared.tasks.TaskSlots.{TaskSlots}
use Rattle.raw_reader.specs.declared.tasks.JobSlots.{JobSlots}
use Rattle.raw_reader.specs.declared.tasks.UserSlots.{UserSlots}
use Rattle.raw_reader.specs.declared.groups.GroupSlots.{GroupSlots}
use Rattle.raw_reader.specs.declared.entries.ClosingSlots.{ClosingSlots}
use Rattle.raw_reader.specs.declared.document.DocumentSlots.{DocumentSlots}
use Rattle.raw_reader.specs.declared.entries.ReportSlots.{ReportSlots}

-- the slot has what the member of the key shows
abbrev pub Slot : {X Y : Type 0} → DocKey → (X → Y) → (Data → Result Y (List PathStep)) → Members
    → Option X → Type 0
Slot key view read found slot = optional key read (object found) ≡ Ok (option_map view slot)

abbrev pub number_view : ℕ → ℕ
number_view n = n

abbrev pub points_view : Vec (ℕ × ℕ) → List (ℕ × ℕ)
points_view points = points.items

abbrev pub LinkHolds : ℕ → LinkSlots → Members → Type 0
LinkHolds version s found =
    Slot keys.Name name_view text found s.name
    × Slot keys.From name_view text found s.from
    × Slot keys.To name_view text found s.to
    × Slot keys.Capacity number_view whole found s.capacity
    × Slot keys.Owner name_view text found s.owner
    × (has_only (keys.Name ∷ keys.From ∷ keys.To ∷ keys.Capacity ∷ []) (link_others version) found
    ≡ true)

abbrev pub PathHolds : ℕ → PathSlots → Members → Type 0
PathHolds version s found =
    Slot keys.Weight number_view whole found s.weight
    × Slot keys.Links (each_view name_view) (list_of text) found s.links
    × (has_only (keys.Weight ∷ keys.Links ∷ []) [] found ≡ true)

abbrev pub TaskHolds : ℕ → TaskSlots → Members → Type 0
TaskHolds version s found =
    Slot keys.Name name_view text found s.name
    × Slot keys.Reporter name_view text found s.reporter
    × Slot keys.Weight number_view whole found s.weight
    × (has_only (keys.Name ∷ keys.Reporter ∷ []) (task_others version) found ≡ true)

abbrev pub JobHolds : ℕ → JobSlots → Members → Type 0
JobHolds version s found =
    Slot keys.Name name_view text found s.name
    × Slot keys.Function points_view function found s.function
    × Slot keys.Task points_view function found s.task
    × Slot keys.Tasks (each_view task_view) (list_of (task_at version)) found s.tasks
    × (has_only (keys.Name ∷ keys.Task ∷ keys.Tasks ∷ []) (keys.Function ∷ []) found ≡ true)

abbrev pub UserHolds : ℕ → UserSlots → Members → Type 0
UserHolds version s found =
    Slot keys.Name name_view text found s.name
    × Slot keys.Function points_view function found s.function
    × Slot keys.Jobs (each_view job_view) (list_of (job_at version)) found s.jobs
    × (has_only (keys.Name ∷ keys.Jobs ∷ []) (keys.Function ∷ []) found ≡ true)

abbrev pub GroupHolds : ℕ → GroupSlots → Members → Type 0
GroupHolds version s found =
    Slot keys.Name name_view text found s.name
    × Slot keys.From name_view text found s.from
    × Slot keys.To name_view text found s.to
    × Slot keys.Function points_view function found s.function
    × Slot keys.Paths (each_view path_group_view) (list_of (list_of path_at)) found s.path_groups
    × Slot keys.Users (each_view user_view) (list_of (user_at version)) found s.users
    × (has_only (keys.Name ∷ keys.From ∷ keys.To ∷ keys.Paths ∷ keys.Users ∷ [])
    (keys.Function ∷ []) found ≡ true)

abbrev pub ClosingHolds : ℕ → ClosingSlots → Members → Type 0
ClosingHolds version s found =
    Slot keys.Link name_view text found s.link
    × Slot keys.Share number_view whole found s.share
    × (has_only (keys.Link ∷ keys.Share ∷ []) [] found ≡ true)

abbrev pub DocumentHolds : ℕ → DocumentSlots → Members → Type 0
DocumentHolds version s found =
    Slot keys.Version number_view whole found s.version
    × Slot keys.Top number_view whole found s.top
    × Slot keys.Links (each_view link_view) (list_of (link_at version)) found s.links
    × Slot keys.Groups (each_view group_view) (list_of (group_at version)) found s.groups
    × Slot keys.Reporters (each_view name_view) (list_of text) found s.reporters
    × Slot keys.Script (each_view report_view) (list_of (report_at version)) found s.script
    × Slot keys.Closings (each_view closing_view) (list_of closing_at) found s.closings
    × (has_only (keys.Version ∷ keys.Top ∷ keys.Links ∷ keys.Groups ∷ keys.Reporters ∷ keys.Script
    ∷ []) (keys.Closings ∷ []) found ≡ true)

abbrev pub ReportHolds : ℕ → ReportSlots → Members → Type 0
ReportHolds version s found =
    Slot keys.Reporter name_view text found s.reporter
    × Slot keys.Task name_view text found s.task
    × Slot keys.Demand number_view whole found s.demand
    × Slot keys.Link name_view text found s.link
    × Slot keys.Capacity number_view whole found s.capacity
    × (s.link ≡ None → s.capacity ≡ None
    → has_only (keys.Reporter ∷ keys.Task ∷ keys.Demand ∷ []) [] found ≡ true)
    × (s.task ≡ None → s.demand ≡ None
    → has_only (keys.Reporter ∷ keys.Link ∷ keys.Capacity ∷ []) [] found ≡ true)
