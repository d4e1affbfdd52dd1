-- How many names a document without repeated names has.
use Rattle.std.proofs.Common.{◌≡◌, ℕ, ◌+◌, Bool, true, false, cond, List, [], ◌∷◌, ◌++◌, length, Result, Ok, Err, sym, ap, ◌∙◌, arith, length-append}
use Rattle.std.specs.List.{list_any}
use Rattle.std.specs.Str.{bytes_eq}
use Rattle.raw_document.specs.declared.key.DocKey.TheVariants as keys
use Rattle.raw_document.specs.declared.doc_path.PathStep.{PathStep}
use Rattle.raw_document.specs.declared.doc_path.PathStep.TheVariants.{Key}
use Rattle.raw_document.specs.Reading.{◌>>=◌, fold_each}
use Rattle.raw_document.specs.Raw.{Job, User, Group, Raw}
use Rattle.doc_passes.specs.Limits.{sum_of}
use Rattle.doc_passes.specs.Passed.{AreNamesOf}
use Rattle.doc_passes.specs.Counts.{job_tasks, user_tasks, group_tasks, task_count}
use Rattle.doc_names.specs.NameTexts.{NameTexts}
use Rattle.doc_passes.specs.Names.{fresh, fresh_name, fold_member, add_link, add_task, add_job, add_user, add_group, name_lists}
use Rattle.doc_passes.proofs.Readings.{bind_ok, under_ok, ok_is, fold_grows, sum_of-one}

fresh_grows : (before : List (List ℕ)) (after : List (List ℕ)) (name : List ℕ) → fresh before name ≡ Ok after → length after ≡ length before + 1
unfolding fresh
fresh_grows before after name e = go (list_any (bytes_eq name) before) e where
  go : (b : Bool) → ◌≡◌ {A = Result (List (List ℕ)) (List PathStep)} (cond {A = Result (List (List ℕ)) (List PathStep)} b (Err []) (Ok (before ++ name ∷ []))) (Ok after) → length after ≡ length before + 1
  go true h = absurd cc
  go false h = omega (arith, ap length (ok_is _ _ h), length-append before (name ∷ []))

fresh_name_grows : (before after : List (List ℕ)) (name : List ℕ) → fresh_name before name ≡ Ok after → length after ≡ length before + 1
fresh_name_grows before after name e = fresh_grows before after name (under_ok (Key keys.Name) (fresh before name) after e)

-- the names of all tasks, where a state has them beside other names
abbrev tasks_in : List (List ℕ) × List (List ℕ) → ℕ
tasks_in state = length state.1

abbrev names_in : List (List ℕ) × List (List ℕ) → ℕ
names_in state = length state.0

job_grows : (before after : List (List ℕ) × List (List ℕ)) (job : Job) → add_job before job ≡ Ok after → tasks_in after ≡ tasks_in before + job_tasks job
unfolding add_job
job_grows before after job e =
    let names = bind_ok (fresh_name before.0 job.name) (λ names. fold_member keys.Tasks add_task before.1 job.tasks >>= λ tasks. Ok (names, tasks)) after e in
    let tasks = bind_ok (fold_member keys.Tasks add_task before.1 job.tasks) (λ tasks. Ok (names.0, tasks)) after names.2 in
    let grown : length tasks.0 ≡ length before.1 + sum_of (λ _. 1) job.tasks = fold_grows add_task length (λ _. 1) (λ before after task. fresh_name_grows before after task.name) 0 before.1 job.tasks tasks.0 (under_ok (Key keys.Tasks) (fold_each add_task 0 before.1 job.tasks) tasks.0 tasks.1) in
    let same : length after.1 ≡ length tasks.0 = ap tasks_in (sym (ok_is (names.0, tasks.0) after tasks.2)) in
    omega (arith, sum_of-one job.tasks)

user_grows : (before after : List (List ℕ) × List (List ℕ)) (user : User) → add_user before user ≡ Ok after → tasks_in after ≡ tasks_in before + user_tasks user
unfolding add_user
user_grows before after user e =
    let names = bind_ok (fresh_name before.0 user.name) (λ names. fold_member keys.Jobs add_job ([], before.1) user.jobs >>= λ jobs. Ok (names, jobs.1)) after e in
    let jobs = bind_ok (fold_member keys.Jobs add_job ([], before.1) user.jobs) (λ jobs. Ok (names.0, jobs.1)) after names.2 in
    let grown : tasks_in jobs.0 ≡ length before.1 + user_tasks user = fold_grows add_job tasks_in job_tasks job_grows 0 ([], before.1) user.jobs jobs.0 (under_ok (Key keys.Jobs) (fold_each add_job 0 ([], before.1) user.jobs) jobs.0 jobs.1) in
    let same : length after.1 ≡ tasks_in jobs.0 = ap tasks_in (sym (ok_is (names.0, jobs.0.1) after jobs.2)) in
    same ∙ grown

-- both the names of groups and those of tasks
group_grows : (before after : List (List ℕ) × List (List ℕ)) (group : Group) → add_group before group ≡ Ok after → (names_in after ≡ names_in before + 1) × (tasks_in after ≡ tasks_in before + group_tasks group)
unfolding add_group
group_grows before after group e =
    let names = bind_ok (fresh_name before.0 group.name) (λ names. fold_member keys.Users add_user ([], before.1) group.users >>= λ users. Ok (names, users.1)) after e in
    let users = bind_ok (fold_member keys.Users add_user ([], before.1) group.users) (λ users. Ok (names.0, users.1)) after names.2 in
    let grown : tasks_in users.0 ≡ length before.1 + group_tasks group = fold_grows add_user tasks_in user_tasks user_grows 0 ([], before.1) group.users users.0 (under_ok (Key keys.Users) (fold_each add_user 0 ([], before.1) group.users) users.0 users.1) in
    let is = ok_is (names.0, users.0.1) after users.2 in
    (ap names_in (sym is) ∙ fresh_name_grows before.0 names.0 group.name names.1, ap tasks_in (sym is) ∙ grown)

pub names_of : (raw : Raw) (names : NameTexts) → name_lists raw ≡ Ok names → AreNamesOf raw names
unfolding name_lists
names_of raw names e =
    let links = bind_ok (fold_member keys.Links add_link [] raw.links) (λ links. fold_member keys.Groups add_group ([], []) raw.groups >>= λ groups. fold_member keys.Reporters fresh [] raw.reporters >>= λ reporters. Ok (record { links = links; groups = groups.0; tasks = groups.1; reporters = reporters })) names e in
    let groups = bind_ok (fold_member keys.Groups add_group ([], []) raw.groups) (λ groups. fold_member keys.Reporters fresh [] raw.reporters >>= λ reporters. Ok (record { links = links.0; groups = groups.0; tasks = groups.1; reporters = reporters })) names links.2 in
    let reporters = bind_ok (fold_member keys.Reporters fresh [] raw.reporters) (λ reporters. Ok (record { links = links.0; groups = groups.0.0; tasks = groups.0.1; reporters = reporters })) names groups.2 in
    let made : NameTexts = record { links = links.0; groups = groups.0.0; tasks = groups.0.1; reporters = reporters.0 } in
    let is : made ≡ names = ok_is made names reporters.2 in
    let links_grown : length links.0 ≡ 0 + sum_of (λ _. 1) raw.links = fold_grows add_link length (λ _. 1) (λ before after link. fresh_name_grows before after link.name) 0 [] raw.links links.0 (under_ok (Key keys.Links) (fold_each add_link 0 [] raw.links) links.0 links.1) in
    let groups_folded : fold_each add_group 0 ([], []) raw.groups ≡ Ok groups.0 = under_ok (Key keys.Groups) (fold_each add_group 0 ([], []) raw.groups) groups.0 groups.1 in
    let groups_grown : length groups.0.0 ≡ 0 + sum_of (λ _. 1) raw.groups = fold_grows add_group names_in (λ _. 1) (λ before after group step. (group_grows before after group step).0) 0 ([], []) raw.groups groups.0 groups_folded in
    let tasks_grown : length groups.0.1 ≡ 0 + task_count raw.groups = fold_grows add_group tasks_in group_tasks (λ before after group step. (group_grows before after group step).1) 0 ([], []) raw.groups groups.0 groups_folded in
    let reporters_grown : length reporters.0 ≡ 0 + sum_of (λ _. 1) raw.reporters = fold_grows fresh length (λ _. 1) fresh_grows 0 [] raw.reporters reporters.0 (under_ok (Key keys.Reporters) (fold_each fresh 0 [] raw.reporters) reporters.0 reporters.1) in
    record {
      links = let same : length names.links ≡ length links.0 = ap (λ (lists : NameTexts). length lists.links) (sym is) in omega (arith, sum_of-one raw.links);
      groups = let same : length names.groups ≡ length groups.0.0 = ap (λ (lists : NameTexts). length lists.groups) (sym is) in omega (arith, sum_of-one raw.groups);
      tasks = let same : length names.tasks ≡ length groups.0.1 = ap (λ (lists : NameTexts). length lists.tasks) (sym is) in omega arith;
      reporters = let same : length names.reporters ≡ length reporters.0 = ap (λ (lists : NameTexts). length lists.reporters) (sym is) in omega (arith, sum_of-one raw.reporters);
    }
