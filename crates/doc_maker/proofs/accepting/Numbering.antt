-- The numbers that a made document has in place of its names.
use Rattle.std.proofs.Common.{true, ◌≡◌, ℕ, suc, ◌+◌, ◌<◌, ◌/◌, ◌%◌, List, [], ◌∷◌, ◌++◌, map, None, Ok, refl, sym, ap, subst, ◌∙◌, arith, append-nil, append_assoc}
use Rattle.std.specs.Prelude.{All, flat_map}
use Rattle.std.proofs.lemmas.Grind.{flat_map-append}
use Rattle.std.proofs.lemmas.List.{map-append, map_push}
use Rattle.std.proofs.lemmas.List.Elements.{All-nil, All-weaker}
use Rattle.bwe_specs.specs.Reports.{numbers}
use Rattle.bwe_specs.specs.Given.{Group}
use Rattle.raw_document.specs.Reading.{each, fold_each}
use Rattle.doc_passes.specs.Names.{number_in}
use Rattle.doc_passes.specs.Numbers as numbers
use Rattle.doc_passes.specs.Numbers.{link_owner, path_numbers, path_groups_numbers, add_task_owner, add_job_owners, add_user_owners, add_group_numbers, report_numbers}
use Rattle.doc_passes.proofs.Readings.{All-anything}
use Rattle.doc_maker.specs.Made.{Size, IsSize, link_name, task_name, reporter_name, made_link, made_path, made_path_groups, tasks_of, made_task, made_user, made_group, made_report, made}
use Rattle.doc_maker.specs.Accepting.{walked_tasks, made_names, numbered_path, numbered_group, numbered_report, made_numbers}
use Rattle.doc_maker.proofs.accepting.Readings.{each_mapped}
use Rattle.doc_maker.proofs.accepting.Walks.{numbers_below, walked_below, contains_task}
use Rattle.doc_maker.proofs.accepting.NameLists.{IsOther, puts_all, IsEarlier, filter_all}
use Rattle.doc_maker.proofs.accepting.Places.{number_in-named, number_in-numbers}

abbrev reporters : List (List ℕ)
reporters = map reporter_name (numbers 4)

reporter_number : (task : ℕ) → number_in reporters (reporter_name (task % 4)) ≡ Ok (task % 4)
reporter_number task = number_in-numbers 114 4 (task % 4) (omega arith) (omega arith)

-- ---- the owners of tasks

task_owner : (before : List ℕ) (task : ℕ) → add_task_owner reporters before (made_task task) ≡ Ok (before ++ task % 4 ∷ [])
unfolding add_task_owner
task_owner before task = rw (reporter_number task) refl

tasks_owners : (place : ℕ) (before tasks : List ℕ) → fold_each (add_task_owner reporters) place before (map made_task tasks) ≡ Ok (before ++ map (λ task. task % 4) tasks)
unfolding fold_each
tasks_owners place before [] = ap Ok (sym (append-nil before))
tasks_owners place before (task ∷ tasks) =
    rw (task_owner before task) (tasks_owners (suc place) (before ++ task % 4 ∷ []) tasks ∙ ap Ok (append_assoc before (task % 4 ∷ []) (map (λ task. task % 4) tasks)))

user_owners : (size : Size) (before : List ℕ) (group : ℕ) → add_user_owners reporters before (made_user size group) ≡ Ok (before ++ map (λ task. task % 4) (tasks_of size group))
unfolding fold_each
user_owners size before group = rw (tasks_owners 0 before (tasks_of size group)) refl

group_owners : (size : Size) (before : List ℕ) (group : ℕ) → fold_each (add_user_owners reporters) 0 before (made_user size group ∷ []) ≡ Ok (before ++ map (λ task. task % 4) (tasks_of size group))
unfolding fold_each
group_owners size before group = rw (user_owners size before group) refl

-- ---- the path groups

module _ (size : Size) (right : IsSize size) where
  abbrev links : List (List ℕ)
  links = map link_name (numbers size.groups)

  path_number : (weight link : ℕ) → link < size.groups → path_numbers links (made_path weight link) ≡ Ok (numbered_path weight link)
  unfolding path_numbers each
  path_number weight link below = rw (number_in-numbers 108 size.groups link (omega arith) below) refl

  path_groups_number : (group : ℕ) → group < size.groups → path_groups_numbers links (made_path_groups size group) ≡ Ok (numbered_group size group).path_groups
  unfolding each
  path_groups_number group below =
      rw (path_number 1 (group / 2) (omega arith), path_number 1 ((group + 1) % size.groups) (omega arith), path_number 2 ((group + 2) % size.groups) (omega arith)) refl

  -- the numbers of the first groups, and the owners of their tasks
  abbrev out : List ℕ → List Group × List ℕ
  out groups = (map (numbered_group size) groups, map (λ task. task % 4) (flat_map (tasks_of size) groups))

  one_more : (before : List ℕ) (group : ℕ) → map (λ task. task % 4) (flat_map (tasks_of size) before) ++ map (λ task. task % 4) (tasks_of size group) ≡ map (λ task. task % 4) (flat_map (tasks_of size) (before ++ group ∷ []))
  one_more before group =
      sym (ap (map (λ task. task % 4)) (flat_map-append (tasks_of size) before (group ∷ []) ∙ ap (λ rest. flat_map (tasks_of size) before ++ rest) (append-nil (tasks_of size group)))
      ∙ map-append (λ task. task % 4) (flat_map (tasks_of size) before) (tasks_of size group))

  group_number : (before : List ℕ) (group : ℕ) → group < size.groups → All (IsOther group) before → add_group_numbers links reporters (out before) (made_group size group) ≡ Ok (out (before ++ group ∷ []))
  unfolding add_group_numbers
  group_number before group below others =
      rw (path_groups_number group below, group_owners size (map (λ task. task % 4) (flat_map (tasks_of size) before)) group, one_more before group, map_push (numbered_group size) before group) refl

  groups_number : fold_each (add_group_numbers links reporters) 0 ([], []) (map (made_group size) (numbers size.groups)) ≡ Ok (out (numbers size.groups))
  groups_number = subst (λ groups. fold_each (add_group_numbers links reporters) 0 ([], []) (map (made_group size) groups) ≡ Ok (out groups)) (filter_all (numbers size.groups)) (puts_all (add_group_numbers links reporters) (made_group size) out (λ _. true) size.groups (omega arith) group_number 0 0 size.groups [] (omega arith) (All-nil (IsEarlier (λ _. true) 0)))

  -- ---- links and reports

  links_owners : each (link_owner reporters) 0 (map (made_link size) (numbers size.groups)) ≡ Ok (map (λ link. None) (numbers size.groups))
  links_owners = each_mapped (link_owner reporters) (made_link size) (λ link. None) (λ _. Unit {0}) (λ link _. refl) 0 (numbers size.groups) (All-anything (numbers size.groups))

  report_number : (task : ℕ) → task < size.tasks → report_numbers links (map task_name (walked_tasks size)) reporters (made_report size task) ≡ Ok (numbered_report size task)
  unfolding report_numbers
  report_number task below =
      rw (reporter_number task, number_in-named 116 task (walked_tasks size) (omega arith) (All-weaker (λ other. other < size.tasks) (λ other. other < 100_000) (λ other small. omega arith) (walked_tasks size) (walked_below size)) (contains_task size task (omega arith) below)) refl

  script_number : each (report_numbers links (map task_name (walked_tasks size)) reporters) 0 (map (made_report size) (numbers size.tasks)) ≡ Ok (map (numbered_report size) (numbers size.tasks))
  script_number = each_mapped (report_numbers links (map task_name (walked_tasks size)) reporters) (made_report size) (numbered_report size) (λ task. task < size.tasks) report_number 0 (numbers size.tasks) (numbers_below size.tasks)

  pub made_numbered : numbers.numbers (made_names size).links (made_names size).tasks (made_names size).reporters (made size) ≡ Ok (made_numbers size)
  unfolding numbers.numbers each
  made_numbered = rw (links_owners, groups_number, script_number) refl
