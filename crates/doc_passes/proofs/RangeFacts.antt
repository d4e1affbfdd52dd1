-- A document without a fault of range is in range.
use Rattle.std.proofs.Common.{◌≡◌, ℕ, ◌≤◌, Bool, true, List, Result, Ok}
use Rattle.std.specs.Prelude.{All, ⊤, nat_le}
use Rattle.std.proofs.lemmas.Bool.{and_parts, leb-true}
use Rattle.bwe_specs.specs.declared.limits.TheConstants.{MAX_AMOUNT, MAX_SHARE, MAX_WEIGHT}
use Rattle.raw_document.specs.declared.key.DocKey.{DocKey}
use Rattle.raw_document.specs.declared.key.DocKey.TheVariants as keys
use Rattle.raw_document.specs.declared.doc_path.PathStep.{PathStep}
use Rattle.raw_document.specs.declared.doc_path.PathStep.TheVariants.{Key}
use Rattle.raw_document.specs.Reading.{◌>>=◌, check, check_each}
use Rattle.raw_document.specs.Raw.{Task, Job, User, Group, Target, of_task, of_link, Report, Closing, Raw}
use Rattle.doc_passes.specs.Ranges as ranges
use Rattle.doc_passes.specs.Ranges.{is_name, is_within, member_range, items_range}
use Rattle.doc_passes.specs.InRange.{HasTaskWeight, HasJobWeights, HasUserWeights, HasGroupWeights, IsInRange}
use Rattle.doc_passes.proofs.Readings.{bind_ok, under_ok, check_ok, check_each_all}

pub member_ok : (key : DocKey) (passes : Bool) (u : ⊤) → member_range key passes ≡ Ok u → passes ≡ true
member_ok key passes u e = check_ok passes u (under_ok (Key key) (check passes) u e)

within_ok : (low high number : ℕ) → is_within low high number ≡ true → (low ≤ number) × (number ≤ high)
within_ok low high number e = let both = and_parts (nat_le low number) (nat_le number high) e in (leb-true low number both.0, leb-true number high both.1)

member_within : (key : DocKey) (low high number : ℕ) (u : ⊤) → member_range key (is_within low high number) ≡ Ok u → (low ≤ number) × (number ≤ high)
member_within key low high number u e = within_ok low high number (member_ok key (is_within low high number) u e)

items_ok : {A : Type 0} (key : DocKey) (range : A → Result ⊤ (List PathStep)) (items : List A) (u : ⊤) → items_range key range items ≡ Ok u → check_each range items ≡ Ok u
items_ok key range items u e = under_ok (Key key) (check_each range items) u e

pub items_all : {A : Type 0} (key : DocKey) (range : A → Result ⊤ (List PathStep)) (P : A → Type 0) → ((item : A) (u : ⊤) → range item ≡ Ok u → P item) → (items : List A) (u : ⊤) → items_range key range items ≡ Ok u → All P items
items_all key range P shows items u e = check_each_all range P shows items u (items_ok key range items u e)

task_weight : (task : Task) (u : ⊤) → ranges.task_range task ≡ Ok u → HasTaskWeight task
unfolding ranges.task_range
task_weight task u e =
    let name = bind_ok (member_range keys.Name (is_name task.name)) (λ _. member_range keys.Reporter (is_name task.reporter) >>= λ _. member_range keys.Weight (is_within 1 MAX_WEIGHT task.weight)) u e in
    let reporter = bind_ok (member_range keys.Reporter (is_name task.reporter)) (λ _. member_range keys.Weight (is_within 1 MAX_WEIGHT task.weight)) u name.2 in
    member_within keys.Weight 1 MAX_WEIGHT task.weight u reporter.2

job_weights : (job : Job) (u : ⊤) → ranges.job_range job ≡ Ok u → HasJobWeights job
unfolding ranges.job_range
job_weights job u e =
    let name = bind_ok (member_range keys.Name (is_name job.name)) (λ _. items_range keys.Tasks ranges.task_range job.tasks) u e in
    items_all keys.Tasks ranges.task_range HasTaskWeight task_weight job.tasks u name.2

user_weights : (user : User) (u : ⊤) → ranges.user_range user ≡ Ok u → HasUserWeights user
unfolding ranges.user_range
user_weights user u e =
    let name = bind_ok (member_range keys.Name (is_name user.name)) (λ _. items_range keys.Jobs ranges.job_range user.jobs) u e in
    items_all keys.Jobs ranges.job_range HasJobWeights job_weights user.jobs u name.2

group_weights : (group : Group) (u : ⊤) → ranges.group_range group ≡ Ok u → HasGroupWeights group
unfolding ranges.group_range
group_weights group u e =
    let name = bind_ok (member_range keys.Name (is_name group.name)) (λ _. member_range keys.From (is_name group.from) >>= λ _. member_range keys.To (is_name group.to) >>= λ _. items_range keys.Paths (check_each ranges.path_range) group.path_groups >>= λ _. items_range keys.Users ranges.user_range group.users) u e in
    let from = bind_ok (member_range keys.From (is_name group.from)) (λ _. member_range keys.To (is_name group.to) >>= λ _. items_range keys.Paths (check_each ranges.path_range) group.path_groups >>= λ _. items_range keys.Users ranges.user_range group.users) u name.2 in
    let to = bind_ok (member_range keys.To (is_name group.to)) (λ _. items_range keys.Paths (check_each ranges.path_range) group.path_groups >>= λ _. items_range keys.Users ranges.user_range group.users) u from.2 in
    let paths = bind_ok (items_range keys.Paths (check_each ranges.path_range) group.path_groups) (λ _. items_range keys.Users ranges.user_range group.users) u to.2 in
    items_all keys.Users ranges.user_range HasUserWeights user_weights group.users u paths.2

target_amount : (target : Target) (amount : ℕ) (u : ⊤) → ranges.target_range target amount ≡ Ok u → amount ≤ MAX_AMOUNT
target_amount (of_task name) amount u e =
    let first = bind_ok (member_range keys.Task (is_name name)) (λ _. member_range keys.Demand (is_within 0 MAX_AMOUNT amount)) u e in
    (member_within keys.Demand 0 MAX_AMOUNT amount u first.2).1
target_amount (of_link name) amount u e =
    let first = bind_ok (member_range keys.Link (is_name name)) (λ _. member_range keys.Capacity (is_within 0 MAX_AMOUNT amount)) u e in
    (member_within keys.Capacity 0 MAX_AMOUNT amount u first.2).1

report_amount : (report : Report) (u : ⊤) → ranges.report_range report ≡ Ok u → report.amount ≤ MAX_AMOUNT
unfolding ranges.report_range
report_amount report u e =
    let first = bind_ok (member_range keys.Reporter (is_name report.reporter)) (λ _. ranges.target_range report.target report.amount) u e in
    target_amount report.target report.amount u first.2

closing_share : (closing : Closing) (u : ⊤) → ranges.closing_range closing ≡ Ok u → closing.share ≤ MAX_SHARE
unfolding ranges.closing_range
closing_share closing u e =
    let first = bind_ok (member_range keys.Link (is_name closing.link)) (λ _. member_range keys.Share (is_within 0 MAX_SHARE closing.share)) u e in
    (member_within keys.Share 0 MAX_SHARE closing.share u first.2).1

-- what is read after the top
abbrev after_script : Raw → Result ⊤ (List PathStep)
after_script raw = items_range keys.Closings ranges.closing_range raw.closings

abbrev after_reporters : Raw → Result ⊤ (List PathStep)
after_reporters raw = items_range keys.Script ranges.report_range raw.script >>= λ _. after_script raw

abbrev after_groups : Raw → Result ⊤ (List PathStep)
after_groups raw = items_range keys.Reporters ranges.name_range raw.reporters >>= λ _. after_reporters raw

abbrev after_links : Raw → Result ⊤ (List PathStep)
after_links raw = items_range keys.Groups ranges.group_range raw.groups >>= λ _. after_groups raw

abbrev after_top : Raw → Result ⊤ (List PathStep)
after_top raw = items_range keys.Links ranges.link_range raw.links >>= λ _. after_links raw

abbrev after_version : Raw → Result ⊤ (List PathStep)
after_version raw = member_range keys.Top (is_within 1 MAX_SHARE raw.top) >>= λ _. after_top raw

pub in_range : (raw : Raw) (u : ⊤) → ranges.ranges raw ≡ Ok u → IsInRange raw
unfolding ranges.ranges
in_range raw u e =
    let version = bind_ok (member_range keys.Version (is_within 1 4 raw.version)) (λ _. after_version raw) u e in
    let top = bind_ok (member_range keys.Top (is_within 1 MAX_SHARE raw.top)) (λ _. after_top raw) u version.2 in
    let links = bind_ok (items_range keys.Links ranges.link_range raw.links) (λ _. after_links raw) u top.2 in
    let groups = bind_ok (items_range keys.Groups ranges.group_range raw.groups) (λ _. after_groups raw) u links.2 in
    let reporters = bind_ok (items_range keys.Reporters ranges.name_range raw.reporters) (λ _. after_reporters raw) u groups.2 in
    let script = bind_ok (items_range keys.Script ranges.report_range raw.script) (λ _. after_script raw) u reporters.2 in
    let within = member_within keys.Top 1 MAX_SHARE raw.top top.0 top.1 in
    record {
      some_top = within.0;
      top = within.1;
      weights = items_all keys.Groups ranges.group_range HasGroupWeights group_weights raw.groups groups.0 groups.1;
      amounts = items_all keys.Script ranges.report_range (λ (report : Report). report.amount ≤ MAX_AMOUNT) report_amount raw.script script.0 script.1;
      shares = items_all keys.Closings ranges.closing_range (λ (closing : Closing). closing.share ≤ MAX_SHARE) closing_share raw.closings u script.2;
    }
