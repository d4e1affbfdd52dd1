-- An object whose slots are full is what its definition reads.
use Rattle.std.proofs.Common.{◌≡◌, ℕ, Bool, true, false, List, [], ◌∷◌, map, Option, Some, None, Ok, refl, ap, ◌∙◌}
use Rattle.std.specs.Prelude.{unwrap_or, option_map, ◌==◌, ◌&&◌, not, if◌then◌else◌}
use Rattle.std.specs.Borrow.{Bor}
use Rattle.std.specs.Global.{Vec}
use Rattle.serde_json.specs.Data.{object, Members}
use Rattle.raw_document.specs.declared.key.DocKey.TheVariants as keys
use Rattle.raw_document.specs.declared.raw.RawLink.{RawLink}
use Rattle.raw_document.specs.declared.raw.RawPath.{RawPath}
use Rattle.raw_document.specs.declared.raw.RawTask.{RawTask}
use Rattle.raw_document.specs.declared.raw.RawJob.{RawJob}
use Rattle.raw_document.specs.declared.raw.RawUser.{RawUser}
use Rattle.raw_document.specs.declared.raw.RawGroup.{RawGroup}
use Rattle.raw_document.specs.declared.raw.RawReport.{RawReport}
use Rattle.raw_document.specs.declared.raw.RawTarget.TheVariants as targets
use Rattle.raw_document.specs.declared.raw.RawClosing.{RawClosing}
use Rattle.raw_document.specs.Reading.{each_view, ◌>>=◌}
use Rattle.raw_document.specs.Shape.{whole, text, function, list_of, has_all}
use Rattle.raw_document.specs.Raw.{name_view, link_view, path_view, path_group_view, task_view, job_view, user_view, group_view, report_view, closing_view, raw_view}
use Rattle.raw_document.specs.Forms.{link_others, task_others, link_at, path_at, task_at, job_at, user_at, group_at, report_at, demand_at, capacity_at, is_of_link, closing_at, document_at}
use Rattle.raw_reader.specs.Slots.{number_view, points_view, LinkHolds, PathHolds, TaskHolds, JobHolds, UserHolds, GroupHolds, ReportHolds, ClosingHolds, DocumentHolds}
use Rattle.raw_reader.proofs.Filling.{there, absent, field_is, object_ok}
use Rattle.raw_reader.specs.declared.groups.LinkSlots.{LinkSlots}
use Rattle.raw_reader.specs.declared.groups.PathSlots.{PathSlots}
use Rattle.raw_reader.specs.declared.tasks.TaskSlots.{TaskSlots}
use Rattle.raw_reader.specs.declared.tasks.JobSlots.{JobSlots}
use Rattle.raw_reader.specs.declared.tasks.UserSlots.{UserSlots}
use Rattle.raw_reader.specs.declared.groups.GroupSlots.{GroupSlots}
use Rattle.raw_reader.specs.declared.entries.ClosingSlots.{ClosingSlots}
use Rattle.raw_reader.specs.declared.document.DocumentSlots.{DocumentSlots}
use Rattle.raw_reader.specs.declared.entries.ReportSlots.{ReportSlots}

pub link_is : (version : ℕ) (found : Members) (s : LinkSlots) (name : Bor (List ℕ)) (from : Bor (List ℕ)) (to : Bor (List ℕ)) (capacity : ℕ)
    → s.name ≡ Some name
    → s.from ≡ Some from
    → s.to ≡ Some to
    → s.capacity ≡ Some capacity
    → LinkHolds version s found
    → link_at version (object found) ≡ Ok (link_view (record { name = name; from = from; to = to; capacity = capacity; owner = s.owner }))
unfolding link_at has_all
link_is version found s name from to capacity is_name is_from is_to is_capacity h =
    let all : has_all (keys.Name ∷ keys.From ∷ keys.To ∷ keys.Capacity ∷ []) (object found) ≡ true = rw (there keys.Name name_view text found s.name name is_name (h.0), there keys.From name_view text found s.from from is_from (h.1), there keys.To name_view text found s.to to is_to (h.2), there keys.Capacity number_view whole found s.capacity capacity is_capacity (h.3)) in
    rw (object_ok (keys.Name ∷ keys.From ∷ keys.To ∷ keys.Capacity ∷ []) (link_others version) found all (h.5), field_is keys.Name name_view text found s.name name is_name (h.0), field_is keys.From name_view text found s.from from is_from (h.1), field_is keys.To name_view text found s.to to is_to (h.2), field_is keys.Capacity number_view whole found s.capacity capacity is_capacity (h.3), h.4)

pub path_is : (version : ℕ) (found : Members) (s : PathSlots) (weight : ℕ) (links : Vec (Bor (List ℕ)))
    → s.weight ≡ Some weight
    → s.links ≡ Some links
    → PathHolds version s found
    → path_at (object found) ≡ Ok (path_view (record { weight = weight; links = links }))
unfolding path_at has_all
path_is version found s weight links is_weight is_links h =
    let all : has_all (keys.Weight ∷ keys.Links ∷ []) (object found) ≡ true = rw (there keys.Weight number_view whole found s.weight weight is_weight (h.0), there keys.Links (each_view name_view) (list_of text) found s.links links is_links (h.1)) in
    rw (object_ok (keys.Weight ∷ keys.Links ∷ []) [] found all (h.2), field_is keys.Weight number_view whole found s.weight weight is_weight (h.0), field_is keys.Links (each_view name_view) (list_of text) found s.links links is_links (h.1))

-- a weight that is absent is 1
weighed : (weight : Option ℕ) (name reporter : Bor (List ℕ))
    → ((Ok (option_map number_view weight) >>= λ w. Ok (unwrap_or w 1)) >>= λ w. Ok (task_view (record { name = name; reporter = reporter; weight = w })))
    ≡ Ok (task_view (record { name = name; reporter = reporter; weight = unwrap_or weight 1 }))
weighed None name reporter = refl
weighed (Some w) name reporter = refl

pub task_is : (version : ℕ) (found : Members) (s : TaskSlots) (name : Bor (List ℕ)) (reporter : Bor (List ℕ))
    → s.name ≡ Some name
    → s.reporter ≡ Some reporter
    → TaskHolds version s found
    → task_at version (object found) ≡ Ok (task_view (record { name = name; reporter = reporter; weight = unwrap_or s.weight 1 }))
unfolding task_at has_all
task_is version found s name reporter is_name is_reporter h =
    let all : has_all (keys.Name ∷ keys.Reporter ∷ []) (object found) ≡ true = rw (there keys.Name name_view text found s.name name is_name (h.0), there keys.Reporter name_view text found s.reporter reporter is_reporter (h.1)) in
    rw (object_ok (keys.Name ∷ keys.Reporter ∷ []) (task_others version) found all (h.3), field_is keys.Name name_view text found s.name name is_name (h.0), field_is keys.Reporter name_view text found s.reporter reporter is_reporter (h.1), h.2) (weighed s.weight name reporter)

pub job_is : (version : ℕ) (found : Members) (s : JobSlots) (name : Bor (List ℕ)) (task : Vec (ℕ × ℕ)) (tasks : Vec RawTask)
    → s.name ≡ Some name
    → s.task ≡ Some task
    → s.tasks ≡ Some tasks
    → JobHolds version s found
    → job_at version (object found) ≡ Ok (job_view (record { name = name; function = s.function; task = task; tasks = tasks }))
unfolding job_at has_all
job_is version found s name task tasks is_name is_task is_tasks h =
    let all : has_all (keys.Name ∷ keys.Task ∷ keys.Tasks ∷ []) (object found) ≡ true = rw (there keys.Name name_view text found s.name name is_name (h.0), there keys.Task points_view function found s.task task is_task (h.2), there keys.Tasks (each_view task_view) (list_of (task_at version)) found s.tasks tasks is_tasks (h.3)) in
    rw (object_ok (keys.Name ∷ keys.Task ∷ keys.Tasks ∷ []) (keys.Function ∷ []) found all (h.4), field_is keys.Name name_view text found s.name name is_name (h.0), field_is keys.Task points_view function found s.task task is_task (h.2), field_is keys.Tasks (each_view task_view) (list_of (task_at version)) found s.tasks tasks is_tasks (h.3), h.1)

pub user_is : (version : ℕ) (found : Members) (s : UserSlots) (name : Bor (List ℕ)) (jobs : Vec RawJob)
    → s.name ≡ Some name
    → s.jobs ≡ Some jobs
    → UserHolds version s found
    → user_at version (object found) ≡ Ok (user_view (record { name = name; function = s.function; jobs = jobs }))
unfolding user_at has_all
user_is version found s name jobs is_name is_jobs h =
    let all : has_all (keys.Name ∷ keys.Jobs ∷ []) (object found) ≡ true = rw (there keys.Name name_view text found s.name name is_name (h.0), there keys.Jobs (each_view job_view) (list_of (job_at version)) found s.jobs jobs is_jobs (h.2)) in
    rw (object_ok (keys.Name ∷ keys.Jobs ∷ []) (keys.Function ∷ []) found all (h.3), field_is keys.Name name_view text found s.name name is_name (h.0), field_is keys.Jobs (each_view job_view) (list_of (job_at version)) found s.jobs jobs is_jobs (h.2), h.1)

pub group_is : (version : ℕ) (found : Members) (s : GroupSlots) (name : Bor (List ℕ)) (from : Bor (List ℕ)) (to : Bor (List ℕ)) (path_groups : Vec (Vec RawPath)) (users : Vec RawUser)
    → s.name ≡ Some name
    → s.from ≡ Some from
    → s.to ≡ Some to
    → s.path_groups ≡ Some path_groups
    → s.users ≡ Some users
    → GroupHolds version s found
    → group_at version (object found) ≡ Ok (group_view (record { name = name; from = from; to = to; function = s.function; path_groups = path_groups; users = users }))
unfolding group_at has_all
group_is version found s name from to path_groups users is_name is_from is_to is_path_groups is_users h =
    let all : has_all (keys.Name ∷ keys.From ∷ keys.To ∷ keys.Paths ∷ keys.Users ∷ []) (object found) ≡ true = rw (there keys.Name name_view text found s.name name is_name (h.0), there keys.From name_view text found s.from from is_from (h.1), there keys.To name_view text found s.to to is_to (h.2), there keys.Paths (each_view path_group_view) (list_of (list_of path_at)) found s.path_groups path_groups is_path_groups (h.4), there keys.Users (each_view user_view) (list_of (user_at version)) found s.users users is_users (h.5)) in
    rw (object_ok (keys.Name ∷ keys.From ∷ keys.To ∷ keys.Paths ∷ keys.Users ∷ []) (keys.Function ∷ []) found all (h.6), field_is keys.Name name_view text found s.name name is_name (h.0), field_is keys.From name_view text found s.from from is_from (h.1), field_is keys.To name_view text found s.to to is_to (h.2), field_is keys.Paths (each_view path_group_view) (list_of (list_of path_at)) found s.path_groups path_groups is_path_groups (h.4), field_is keys.Users (each_view user_view) (list_of (user_at version)) found s.users users is_users (h.5), h.3)

pub closing_is : (version : ℕ) (found : Members) (s : ClosingSlots) (link : Bor (List ℕ)) (share : ℕ)
    → s.link ≡ Some link
    → s.share ≡ Some share
    → ClosingHolds version s found
    → closing_at (object found) ≡ Ok (closing_view (record { link = link; share = share }))
unfolding closing_at has_all
closing_is version found s link share is_link is_share h =
    let all : has_all (keys.Link ∷ keys.Share ∷ []) (object found) ≡ true = rw (there keys.Link name_view text found s.link link is_link (h.0), there keys.Share number_view whole found s.share share is_share (h.1)) in
    rw (object_ok (keys.Link ∷ keys.Share ∷ []) [] found all (h.2), field_is keys.Link name_view text found s.link link is_link (h.0), field_is keys.Share number_view whole found s.share share is_share (h.1))

-- closings that are absent are none
pub none_or : (found : Option (Vec RawClosing)) (empty : Vec RawClosing) → empty.items ≡ [] → each_view closing_view (unwrap_or found empty) ≡ unwrap_or (option_map (each_view closing_view) found) []
none_or None empty e = ap (map closing_view) e
none_or (Some closings) empty e = refl

pub document_is : (version : ℕ) (found : Members) (s : DocumentSlots) (top : ℕ) (links : Vec RawLink) (groups : Vec RawGroup) (reporters : Vec (Bor (List ℕ))) (script : Vec RawReport)
    → s.version ≡ Some version
    → s.top ≡ Some top
    → s.links ≡ Some links
    → s.groups ≡ Some groups
    → s.reporters ≡ Some reporters
    → s.script ≡ Some script
    → DocumentHolds version s found
    → (closings : Vec RawClosing) → each_view closing_view closings ≡ unwrap_or (option_map (each_view closing_view) s.closings) []
    → document_at (object found) ≡ Ok (raw_view (record { version = version; top = top; links = links; groups = groups; reporters = reporters; script = script; closings = closings }))
unfolding document_at has_all
document_is version found s top links groups reporters script is_version is_top is_links is_groups is_reporters is_script h closings these =
    let all : has_all (keys.Version ∷ keys.Top ∷ keys.Links ∷ keys.Groups ∷ keys.Reporters ∷ keys.Script ∷ []) (object found) ≡ true = rw (there keys.Version number_view whole found s.version version is_version (h.0), there keys.Top number_view whole found s.top top is_top (h.1), there keys.Links (each_view link_view) (list_of (link_at version)) found s.links links is_links (h.2), there keys.Groups (each_view group_view) (list_of (group_at version)) found s.groups groups is_groups (h.3), there keys.Reporters (each_view name_view) (list_of text) found s.reporters reporters is_reporters (h.4), there keys.Script (each_view report_view) (list_of (report_at version)) found s.script script is_script (h.5)) in
    rw (object_ok (keys.Version ∷ keys.Top ∷ keys.Links ∷ keys.Groups ∷ keys.Reporters ∷ keys.Script ∷ []) (keys.Closings ∷ []) found all (h.7), field_is keys.Version number_view whole found s.version version is_version (h.0), field_is keys.Top number_view whole found s.top top is_top (h.1), field_is keys.Links (each_view link_view) (list_of (link_at version)) found s.links links is_links (h.2), field_is keys.Groups (each_view group_view) (list_of (group_at version)) found s.groups groups is_groups (h.3), field_is keys.Reporters (each_view name_view) (list_of text) found s.reporters reporters is_reporters (h.4), field_is keys.Script (each_view report_view) (list_of (report_at version)) found s.script script is_script (h.5), h.6, these)

-- ---- an entry of the script

left_out : {A : Type 0} (b : Bool) (x y : A) → (if b && false then x else y) ≡ y
left_out true x y = refl
left_out false x y = refl

pub demand_is : (version : ℕ) (found : Members) (s : ReportSlots) (reporter task : Bor (List ℕ)) (demand : ℕ)
    → s.reporter ≡ Some reporter → s.task ≡ Some task → s.demand ≡ Some demand → s.link ≡ None → s.capacity ≡ None
    → ReportHolds version s found
    → report_at version (object found) ≡ Ok (report_view (record { reporter = reporter; target = targets.Task task; amount = demand }))
unfolding report_at is_of_link demand_at has_all
demand_is version found s reporter task demand is_reporter is_task is_demand no_link no_capacity h =
    let all : has_all (keys.Reporter ∷ keys.Task ∷ keys.Demand ∷ []) (object found) ≡ true =
    rw (there keys.Reporter name_view text found s.reporter reporter is_reporter h.0, there keys.Task name_view text found s.task task is_task h.1, there keys.Demand number_view whole found s.demand demand is_demand h.2) in
    rw (absent keys.Link name_view text found s.link no_link h.3, absent keys.Capacity number_view whole found s.capacity no_capacity h.4)
    (left_out (not (version == 1)) (capacity_at (object found)) (demand_at (object found))
    ∙ rw (object_ok (keys.Reporter ∷ keys.Task ∷ keys.Demand ∷ []) [] found all (h.5 no_link no_capacity), field_is keys.Reporter name_view text found s.reporter reporter is_reporter h.0, field_is keys.Task name_view text found s.task task is_task h.1, field_is keys.Demand number_view whole found s.demand demand is_demand h.2))

pub capacity_is : (version : ℕ) (found : Members) (s : ReportSlots) (reporter link : Bor (List ℕ)) (capacity : ℕ)
    → s.reporter ≡ Some reporter → s.task ≡ None → s.demand ≡ None → s.link ≡ Some link → s.capacity ≡ Some capacity → (version == 1) ≡ false
    → ReportHolds version s found
    → report_at version (object found) ≡ Ok (report_view (record { reporter = reporter; target = targets.Link link; amount = capacity }))
unfolding report_at is_of_link capacity_at has_all
capacity_is version found s reporter link capacity is_reporter no_task no_demand is_link is_capacity later h =
    let with_link = there keys.Link name_view text found s.link link is_link h.3 in
    let all : has_all (keys.Reporter ∷ keys.Link ∷ keys.Capacity ∷ []) (object found) ≡ true =
    rw (there keys.Reporter name_view text found s.reporter reporter is_reporter h.0, with_link, there keys.Capacity number_view whole found s.capacity capacity is_capacity h.4) in
    rw (later, with_link, object_ok (keys.Reporter ∷ keys.Link ∷ keys.Capacity ∷ []) [] found all (h.6 no_task no_demand), field_is keys.Reporter name_view text found s.reporter reporter is_reporter h.0, field_is keys.Link name_view text found s.link link is_link h.3, field_is keys.Capacity number_view whole found s.capacity capacity is_capacity h.4)
