-- The numbers and names of a made document are in their ranges.
use Rattle.std.proofs.Common.{◌≡◌, ℕ, ◌+◌, ◌<◌, ◌/◌, ◌%◌, true, [], ◌∷◌, map, Ok, refl, arith}
use Rattle.std.specs.Prelude.{codes}
use Rattle.std.proofs.lemmas.Bool.{le-leb}
use Rattle.bwe_specs.specs.Reports.{numbers}
use Rattle.bwe_specs.specs.declared.limits.TheConstants.{MAX_AMOUNT}
use Rattle.raw_document.specs.Reading.{each, check_each}
use Rattle.doc_passes.specs.Ranges.{is_name, is_within, name_range, link_range, path_range, task_range, job_range, user_range, group_range, report_range, closing_range, ranges}
use Rattle.doc_maker.specs.Made.{Size, IsSize, drawn, link_name, task_name, reporter_name, made_link, made_path, made_path_groups, tasks_of, made_task, made_job, made_user, made_group, made_report, made}
use Rattle.doc_maker.proofs.accepting.Readings.{check_each_mapped}
use Rattle.doc_maker.proofs.accepting.Walks.{numbers_below, tasks_below}
use Rattle.doc_maker.proofs.accepting.Names.{named, is_name-named}

-- ---- names and numbers

link_name_right : (link : ℕ) → link < 100_000 → is_name (link_name link) ≡ true
link_name_right link small = is_name-named 108 link refl small

group_name_right : (group : ℕ) → group < 100_000 → is_name (named 103 group) ≡ true
group_name_right group small = is_name-named 103 group refl small

task_name_right : (task : ℕ) → task < 100_000 → is_name (task_name task) ≡ true
task_name_right task small = is_name-named 116 task refl small

reporter_name_right : (reporter : ℕ) → reporter < 100_000 → is_name (reporter_name reporter) ≡ true
reporter_name_right reporter small = is_name-named 114 reporter refl small

a_right : is_name (codes "a") ≡ true
unfolding is_name
a_right = refl

b_right : is_name (codes "b") ≡ true
unfolding is_name
b_right = refl

job_name_right : is_name (codes "j0") ≡ true
unfolding is_name
job_name_right = refl

user_name_right : is_name (codes "u0") ≡ true
unfolding is_name
user_name_right = refl

drawn_within : (size : Size) (place : ℕ) → is_within 0 MAX_AMOUNT (drawn size place) ≡ true
drawn_within size place = rw (le-leb 0 (drawn size place) (omega arith), le-leb (drawn size place) MAX_AMOUNT (omega arith)) refl

-- ---- the objects

link_in_range : (size : Size) (link : ℕ) → link < 100_000 → link_range (made_link size link) ≡ Ok tt
unfolding link_range
link_in_range size link small = rw (link_name_right link small, a_right, b_right) refl

path_in_range : (weight link : ℕ) → link < 100_000 → path_range (made_path weight link) ≡ Ok tt
unfolding path_range each
path_in_range weight link small = rw (link_name_right link small) refl

task_in_range : (task : ℕ) → task < 100_000 → task_range (made_task task) ≡ Ok tt
unfolding task_range
task_in_range task small = rw (task_name_right task small, reporter_name_right (task % 4) (omega arith)) refl

report_in_range : (size : Size) (task : ℕ) → task < 100_000 → report_range (made_report size task) ≡ Ok tt
unfolding report_range
report_in_range size task small = rw (reporter_name_right (task % 4) (omega arith), task_name_right task small, drawn_within size (size.groups + task)) refl

module _ (size : Size) (right : IsSize size) where
  tasks_in_range : (group : ℕ) → check_each task_range (map made_task (tasks_of size group)) ≡ Ok tt
  tasks_in_range group = check_each_mapped task_range made_task (λ task. task < size.tasks) (λ task below. task_in_range task (omega arith)) (tasks_of size group) (tasks_below size group)

  job_in_range : (group : ℕ) → job_range (made_job size group) ≡ Ok tt
  unfolding job_range
  job_in_range group = rw (job_name_right, tasks_in_range group) refl

  user_in_range : (group : ℕ) → user_range (made_user size group) ≡ Ok tt
  unfolding user_range each
  user_in_range group = rw (user_name_right, job_in_range group) refl

  paths_in_range : (group : ℕ) → group < size.groups → check_each (check_each path_range) (made_path_groups size group) ≡ Ok tt
  unfolding each
  paths_in_range group below =
      rw (path_in_range 1 (group / 2) (omega arith), path_in_range 1 ((group + 1) % size.groups) (omega arith), path_in_range 2 ((group + 2) % size.groups) (omega arith)) refl

  users_in_range : (group : ℕ) → check_each user_range (made_user size group ∷ []) ≡ Ok tt
  unfolding each
  users_in_range group = rw (user_in_range group) refl

  group_in_range : (group : ℕ) → group < size.groups → group_range (made_group size group) ≡ Ok tt
  unfolding group_range
  group_in_range group below = rw (group_name_right group (omega arith), a_right, b_right, paths_in_range group below, users_in_range group) refl

  no_closings : check_each closing_range [] ≡ Ok tt
  unfolding each
  no_closings = refl

  reporter_in_range : (reporter : ℕ) → reporter < 4 → name_range (reporter_name reporter) ≡ Ok tt
  reporter_in_range reporter below = rw (reporter_name_right reporter (omega arith)) refl

  pub made_in_range : ranges (made size) ≡ Ok tt
  unfolding ranges
  made_in_range =
      rw (
        check_each_mapped link_range (made_link size) (λ link. link < size.groups) (λ link below. link_in_range size link (omega arith)) (numbers size.groups) (numbers_below size.groups),
        check_each_mapped group_range (made_group size) (λ group. group < size.groups) group_in_range (numbers size.groups) (numbers_below size.groups),
        check_each_mapped name_range reporter_name (λ reporter. reporter < 4) reporter_in_range (numbers 4) (numbers_below 4),
        check_each_mapped report_range (made_report size) (λ task. task < size.tasks) (λ task below. report_in_range size task (omega arith)) (numbers size.tasks) (numbers_below size.tasks),
        no_closings,
      ) refl
