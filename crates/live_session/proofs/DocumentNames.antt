-- The names of an accepted document: each is one, and no two of one kind are the same.
use Rattle.std.proofs.Common.{◌≡◌, ◌≢◌, ◌<◌, ◌≤◌, ◌+◌, ◌++◌, ℕ, suc, Bool, true, false, cond, List, [], ◌∷◌, length, get_or, Result, Ok, Err, refl, sym, ap, ◌∙◌, subst, arith, inl, inr, ◌⊎◌, All}
use Rattle.std.specs.Prelude.{⊤, slice_index_or}
use Rattle.std.specs.List.{list_any}
use Rattle.std.specs.Str.{bytes_eq}
use Rattle.std.proofs.lemmas.Bool.{cases_lt, false≢true}
use Rattle.std.proofs.lemmas.List.{get_or_append_left, get_or_push, length_push}
use Rattle.std.proofs.lemmas.List.Elements.{All-nil, All-push}
use Rattle.std.proofs.lemmas.List.Folds.{list_any_at}
use Rattle.std.proofs.lemmas.Slice.Eq.{bytes_eq-Decides}
use Rattle.raw_document.specs.declared.key.DocKey.TheVariants as keys
use Rattle.raw_document.specs.declared.doc_path.PathStep.{PathStep}
use Rattle.raw_document.specs.declared.doc_path.PathStep.TheVariants.{Index, Key}
use Rattle.raw_document.specs.Reading.{◌>>=◌, check_each, fold_each, under}
use Rattle.raw_document.specs.Raw.{Group, Job, Link, Raw, Task, User}
use Rattle.doc_names.specs.NameTexts.{NameTexts}
use Rattle.doc_passes.specs.Names.{add_group, add_job, add_link, add_task, add_user, fold_member, fresh, fresh_name, name_lists}
use Rattle.doc_passes.specs.Ranges as ranges
use Rattle.doc_passes.specs.Ranges.{is_name, is_within, items_range, member_range}
use Rattle.doc_passes.proofs.RangeFacts.{items_all, member_ok}
use Rattle.doc_passes.proofs.Readings.{bind_ok, check_ok, ok_is, under_ok}
use Rattle.bwe_specs.specs.declared.limits.TheConstants.{MAX_SHARE, MAX_WEIGHT}
use Rattle.std.proofs.lemmas.List.Elements.{All-head, All-tail}

-- ---- names in range

abbrev pub IsName : List ℕ → Type 0
IsName name = is_name name ≡ true

abbrev HasTaskName : Task → Type 0
HasTaskName task = IsName task.name

abbrev HasJobNames : Job → Type 0
HasJobNames job = All HasTaskName job.tasks

abbrev HasUserNames : User → Type 0
HasUserNames user = All HasJobNames user.jobs

abbrev HasGroupNames : Group → Type 0
HasGroupNames group = All HasUserNames group.users

-- what a group and its tasks are called
record HasNames (group : Group) : Type 0 where
  name : IsName group.name
  users : HasGroupNames group

record AreNamed (raw : Raw) : Type 0 where
  links : All (λ (link : Link). IsName link.name) raw.links
  groups : All HasNames raw.groups
  reporters : All IsName raw.reporters

task_named : (task : Task) (u : ⊤) → ranges.task_range task ≡ Ok u → HasTaskName task
unfolding ranges.task_range
task_named task u e =
    let name = bind_ok (member_range keys.Name (is_name task.name)) (λ _. member_range keys.Reporter (is_name task.reporter) >>= λ _. member_range keys.Weight (is_within 1 MAX_WEIGHT task.weight)) u e in
    member_ok keys.Name (is_name task.name) name.0 name.1

job_named : (job : Job) (u : ⊤) → ranges.job_range job ≡ Ok u → HasJobNames job
unfolding ranges.job_range
job_named job u e =
    let name = bind_ok (member_range keys.Name (is_name job.name)) (λ _. items_range keys.Tasks ranges.task_range job.tasks) u e in
    items_all keys.Tasks ranges.task_range HasTaskName task_named job.tasks u name.2

user_named : (user : User) (u : ⊤) → ranges.user_range user ≡ Ok u → HasUserNames user
unfolding ranges.user_range
user_named user u e =
    let name = bind_ok (member_range keys.Name (is_name user.name)) (λ _. items_range keys.Jobs ranges.job_range user.jobs) u e in
    items_all keys.Jobs ranges.job_range HasJobNames job_named user.jobs u name.2

group_named : (group : Group) (u : ⊤) → ranges.group_range group ≡ Ok u → HasNames group
unfolding ranges.group_range
group_named group u e =
    let name = bind_ok (member_range keys.Name (is_name group.name)) (λ _. member_range keys.From (is_name group.from) >>= λ _. member_range keys.To (is_name group.to) >>= λ _. items_range keys.Paths (check_each ranges.path_range) group.path_groups >>= λ _. items_range keys.Users ranges.user_range group.users) u e in
    let from = bind_ok (member_range keys.From (is_name group.from)) (λ _. member_range keys.To (is_name group.to) >>= λ _. items_range keys.Paths (check_each ranges.path_range) group.path_groups >>= λ _. items_range keys.Users ranges.user_range group.users) u name.2 in
    let to = bind_ok (member_range keys.To (is_name group.to)) (λ _. items_range keys.Paths (check_each ranges.path_range) group.path_groups >>= λ _. items_range keys.Users ranges.user_range group.users) u from.2 in
    let paths = bind_ok (items_range keys.Paths (check_each ranges.path_range) group.path_groups) (λ _. items_range keys.Users ranges.user_range group.users) u to.2 in
    record { name = member_ok keys.Name (is_name group.name) name.0 name.1; users = items_all keys.Users ranges.user_range HasUserNames user_named group.users u paths.2 }

link_named : (link : Link) (u : ⊤) → ranges.link_range link ≡ Ok u → IsName link.name
unfolding ranges.link_range
link_named link u e =
    let name = bind_ok (member_range keys.Name (is_name link.name)) (λ _. member_range keys.From (is_name link.from) >>= λ _. member_range keys.To (is_name link.to) >>= λ _. ranges.owner_range link.owner) u e in
    member_ok keys.Name (is_name link.name) name.0 name.1

abbrev after_reporters : Raw → Result ⊤ (List PathStep)
after_reporters raw = items_range keys.Script ranges.report_range raw.script >>= λ _. items_range keys.Closings ranges.closing_range raw.closings

abbrev after_groups : Raw → Result ⊤ (List PathStep)
after_groups raw = items_range keys.Reporters ranges.name_range raw.reporters >>= λ _. after_reporters raw

abbrev after_links : Raw → Result ⊤ (List PathStep)
after_links raw = items_range keys.Groups ranges.group_range raw.groups >>= λ _. after_groups raw

abbrev after_top : Raw → Result ⊤ (List PathStep)
after_top raw = items_range keys.Links ranges.link_range raw.links >>= λ _. after_links raw

abbrev after_version : Raw → Result ⊤ (List PathStep)
after_version raw = member_range keys.Top (is_within 1 MAX_SHARE raw.top) >>= λ _. after_top raw

all_named : (raw : Raw) (u : ⊤) → ranges.ranges raw ≡ Ok u → AreNamed raw
unfolding ranges.ranges
all_named raw u e =
    let version = bind_ok (member_range keys.Version (is_within 1 4 raw.version)) (λ _. after_version raw) u e in
    let top = bind_ok (member_range keys.Top (is_within 1 MAX_SHARE raw.top)) (λ _. after_top raw) u version.2 in
    let links = bind_ok (items_range keys.Links ranges.link_range raw.links) (λ _. after_links raw) u top.2 in
    let groups = bind_ok (items_range keys.Groups ranges.group_range raw.groups) (λ _. after_groups raw) u links.2 in
    let reporters = bind_ok (items_range keys.Reporters ranges.name_range raw.reporters) (λ _. after_reporters raw) u groups.2 in
    record {
      links = items_all keys.Links ranges.link_range (λ (link : Link). IsName link.name) link_named raw.links links.0 links.1;
      groups = items_all keys.Groups ranges.group_range HasNames group_named raw.groups groups.0 groups.1;
      reporters = items_all keys.Reporters ranges.name_range IsName (λ name u e. check_ok (is_name name) u e) raw.reporters reporters.0 reporters.1;
    }

-- ---- what the lists of names keep

-- what a step keeps, a loop keeps
fold_keeps : {S A : Type 0} (step : S → A → Result S (List PathStep)) (P : S → Type 0) (Q : A → Type 0) → ((before after : S) (item : A) → P before → Q item → step before item ≡ Ok after → P after)
    → (place : ℕ) (before : S) (items : List A) (after : S) → P before → All Q items → fold_each step place before items ≡ Ok after → P after
unfolding fold_each
fold_keeps step P Q keeps place before [] after is all e = subst P (ok_is before after e) is
fold_keeps step P Q keeps place before (item ∷ items) after is all e =
    let first = bind_ok (under (Index place) (step before item)) (λ next. fold_each step (suc place) next items) after e in
    fold_keeps step P Q keeps (suc place) first.0 items after (keeps before first.0 item is (All-head Q item items all) (under_ok (Index place) (step before item) first.0 first.1)) (All-tail Q item items all) first.2

-- a name that is fresh is put behind the others
fresh_is : (before after : List (List ℕ)) (name : List ℕ) → fresh before name ≡ Ok after → (list_any (bytes_eq name) before ≡ false) × (after ≡ before ++ name ∷ [])
unfolding fresh
fresh_is before after name e = go (list_any (bytes_eq name) before) refl e where
  go : (b : Bool) → list_any (bytes_eq name) before ≡ b → ◌≡◌ {A = Result (List (List ℕ)) (List PathStep)} (cond {A = Result (List (List ℕ)) (List PathStep)} b (Err []) (Ok (before ++ name ∷ []))) (Ok after)
      → (list_any (bytes_eq name) before ≡ false) × (after ≡ before ++ name ∷ [])
  go true is e = absurd cc
  go false is e = (is, sym (ok_is (before ++ name ∷ []) after e))

-- no two names are the same
unfoldable pub AreApart : List (List ℕ) → Type 0
AreApart names = (number other : ℕ) → number < other → other < length names → slice_index_or names number [] ≢ slice_index_or names other []

apart_more : (before after : List (List ℕ)) (name : List ℕ) → AreApart before → fresh before name ≡ Ok after → AreApart after
unfolding AreApart
apart_more before after name apart e number other before_other within = go (cases_lt other (length before)) where
  is : (list_any (bytes_eq name) before ≡ false) × (after ≡ before ++ name ∷ [])
  is = fresh_is before after name e

  size : length after ≡ length before + 1
  size = ap length is.1 ∙ length_push before name

  at : (place : ℕ) → get_or after place [] ≡ get_or (before ++ name ∷ []) place []
  at place = ap (λ (names : List (List ℕ)). get_or names place []) is.1

  first : number < length before → get_or after number [] ≡ get_or before number []
  first lt = at number ∙ get_or_append_left before (name ∷ []) [] number lt

  go : (other < length before) ⊎ (length before ≤ other) → get_or after number [] ≡ get_or after other [] → ⊥
  go (inl lt) same = apart number other before_other lt (sym (first (omega (arith, before_other, lt))) ∙ same ∙ at other ∙ get_or_append_left before (name ∷ []) [] other lt)
  go (inr past) same =
      let last : length before ≡ other = omega (arith, past, within, size) in
      let lt : number < length before = omega (arith, before_other, last) in
      let named : get_or before number [] ≡ name = sym (first lt) ∙ same ∙ at other ∙ get_or_push before name [] other last in
      false≢true (sym is.0 ∙ list_any_at (bytes_eq name) before number [] lt ((bytes_eq-Decides name (get_or before number [])).1 (sym named)))

apart_none : AreApart []
unfolding AreApart
apart_none number other before within same = omega arith

-- names that are names, each of which stands once
pub record AreSingle (names : List (List ℕ)) : Type 0 where
  pub each : All IsName names
  pub apart : AreApart names

single_none : AreSingle []
single_none = record { each = All-nil IsName; apart = apart_none }

single_more : (before after : List (List ℕ)) (name : List ℕ) → AreSingle before → IsName name → fresh before name ≡ Ok after → AreSingle after
single_more before after name single is e = record {
  each = subst (All IsName) (sym (fresh_is before after name e).1) (All-push IsName before name single.each is);
  apart = apart_more before after name single.apart e;
}

single_named : (before after : List (List ℕ)) (name : List ℕ) → AreSingle before → IsName name → fresh_name before name ≡ Ok after → AreSingle after
single_named before after name single is e = single_more before after name single is (under_ok (Key keys.Name) (fresh before name) after e)

-- the tasks' names beside others
abbrev HasSingleTasks : List (List ℕ) × List (List ℕ) → Type 0
HasSingleTasks state = AreSingle state.1

job_single : (before after : List (List ℕ) × List (List ℕ)) (job : Job) → HasSingleTasks before → HasJobNames job → add_job before job ≡ Ok after → HasSingleTasks after
unfolding add_job
job_single before after job all named e =
    let names = bind_ok (fresh_name before.0 job.name) (λ names. fold_member keys.Tasks add_task before.1 job.tasks >>= λ tasks. Ok (names, tasks)) after e in
    let tasks = bind_ok (fold_member keys.Tasks add_task before.1 job.tasks) (λ tasks. Ok (names.0, tasks)) after names.2 in
    let single = fold_keeps add_task AreSingle HasTaskName (λ before after task all is e. single_named before after task.name all is e) 0 before.1 job.tasks tasks.0 all named (under_ok (Key keys.Tasks) (fold_each add_task 0 before.1 job.tasks) tasks.0 tasks.1) in
    subst HasSingleTasks (ok_is (names.0, tasks.0) after tasks.2) single

user_single : (before after : List (List ℕ) × List (List ℕ)) (user : User) → HasSingleTasks before → HasUserNames user → add_user before user ≡ Ok after → HasSingleTasks after
unfolding add_user
user_single before after user all named e =
    let names = bind_ok (fresh_name before.0 user.name) (λ names. fold_member keys.Jobs add_job ([], before.1) user.jobs >>= λ jobs. Ok (names, jobs.1)) after e in
    let jobs = bind_ok (fold_member keys.Jobs add_job ([], before.1) user.jobs) (λ jobs. Ok (names.0, jobs.1)) after names.2 in
    let single = fold_keeps add_job HasSingleTasks HasJobNames job_single 0 ([], before.1) user.jobs jobs.0 all named (under_ok (Key keys.Jobs) (fold_each add_job 0 ([], before.1) user.jobs) jobs.0 jobs.1) in
    subst HasSingleTasks (ok_is (names.0, jobs.0.1) after jobs.2) single

-- the groups' names, and those of all tasks
record AreBothSingle (state : List (List ℕ) × List (List ℕ)) : Type 0 where
  groups : AreSingle state.0
  tasks : AreSingle state.1

group_single : (before after : List (List ℕ) × List (List ℕ)) (group : Group) → AreBothSingle before → HasNames group → add_group before group ≡ Ok after → AreBothSingle after
unfolding add_group
group_single before after group all named e =
    let names = bind_ok (fresh_name before.0 group.name) (λ names. fold_member keys.Users add_user ([], before.1) group.users >>= λ users. Ok (names, users.1)) after e in
    let users = bind_ok (fold_member keys.Users add_user ([], before.1) group.users) (λ users. Ok (names.0, users.1)) after names.2 in
    let single = fold_keeps add_user HasSingleTasks HasUserNames user_single 0 ([], before.1) group.users users.0 all.tasks named.users (under_ok (Key keys.Users) (fold_each add_user 0 ([], before.1) group.users) users.0 users.1) in
    subst AreBothSingle (ok_is (names.0, users.0.1) after users.2) (record { groups = single_named before.0 names.0 group.name all.groups named.name names.1; tasks = single })

-- what is known of the names of an accepted document
pub record AreAllSingle (names : NameTexts) : Type 0 where
  pub links : AreSingle names.links
  pub groups : AreSingle names.groups
  pub tasks : AreSingle names.tasks
  pub reporters : AreSingle names.reporters

pub names_single : (raw : Raw) (u : ⊤) (names : NameTexts) → ranges.ranges raw ≡ Ok u → name_lists raw ≡ Ok names → AreAllSingle names
unfolding name_lists
names_single raw u names range e =
    let named : AreNamed raw = all_named raw u range in
    let links = bind_ok (fold_member keys.Links add_link [] raw.links) (λ links. fold_member keys.Groups add_group ([], []) raw.groups >>= λ groups. fold_member keys.Reporters fresh [] raw.reporters >>= λ reporters. Ok (record { links = links; groups = groups.0; tasks = groups.1; reporters = reporters })) names e in
    let groups = bind_ok (fold_member keys.Groups add_group ([], []) raw.groups) (λ groups. fold_member keys.Reporters fresh [] raw.reporters >>= λ reporters. Ok (record { links = links.0; groups = groups.0; tasks = groups.1; reporters = reporters })) names links.2 in
    let reporters = bind_ok (fold_member keys.Reporters fresh [] raw.reporters) (λ reporters. Ok (record { links = links.0; groups = groups.0.0; tasks = groups.0.1; reporters = reporters })) names groups.2 in
    let made : NameTexts = record { links = links.0; groups = groups.0.0; tasks = groups.0.1; reporters = reporters.0 } in
    let is : made ≡ names = ok_is made names reporters.2 in
    let both = fold_keeps add_group AreBothSingle HasNames group_single 0 ([], []) raw.groups groups.0 (record { groups = single_none; tasks = single_none }) named.groups (under_ok (Key keys.Groups) (fold_each add_group 0 ([], []) raw.groups) groups.0 groups.1) in
    subst AreAllSingle {x = made} is (record {
      links = fold_keeps add_link AreSingle (λ (link : Link). IsName link.name) (λ before after link all is e. single_named before after link.name all is e) 0 [] raw.links links.0 single_none named.links (under_ok (Key keys.Links) (fold_each add_link 0 [] raw.links) links.0 links.1);
      groups = both.groups;
      tasks = both.tasks;
      reporters = fold_keeps fresh AreSingle IsName single_more 0 [] raw.reporters reporters.0 single_none named.reporters (under_ok (Key keys.Reporters) (fold_each fresh 0 [] raw.reporters) reporters.0 reporters.1);
    })
