-- Nothing is refused of the path groups, the tree and the script of a made document.
use Rattle.std.proofs.Common.{◌≡◌, ℕ, suc, ◌+◌, ◌<◌, ◌≤◌, ◌/◌, ◌%◌, ◌==◌, Bool, false, List, [], ◌∷◌, length, map, Option, Some, None, refl, sym, ap, ◌∙◌, arith}
use Rattle.std.specs.Prelude.{All, codes, position, sum_by}
use Rattle.std.specs.List.{position_or_len, slice_get}
use Rattle.std.proofs.Math.Nat.{mod-eq_of_lt}
use Rattle.std.proofs.lemmas.Bool.{le-ltb, eq-eqb, ne_eqb}
use Rattle.std.proofs.lemmas.List.{length-map, get_or-map}
use Rattle.std.proofs.lemmas.List.Concat.{length-flat_map}
use Rattle.std.proofs.lemmas.List.Elements.{All-nil, All-cons, All-append, All-weaker, All-head, All-tail}
use Rattle.std.proofs.lemmas.List.FromFn.{length-range_with_len}
use Rattle.std.proofs.lemmas.List.Sums.{position_or_len_is, sum_by-cons}
use Rattle.std.proofs.lemmas.Option.{slice_get-get_or}
use Rattle.bwe_specs.specs.Reports.{numbers}
use Rattle.wan_topology.specs.Network as networks
use Rattle.wan_topology.specs.Network.{Network, Sites, network_of, sites_of}
use Rattle.path_groups.specs.Faults.{first_fault, leads, repeats, path_fault, path_group_fault, group_fault, plan_fault}
use Rattle.tree_spec.specs.Tasks.{without_demand}
use Rattle.raw_document.specs.Raw.{Task}
use Rattle.tree_spec.specs.States.{ClusterState, cluster_tasks}
use Rattle.tree_spec.specs.Numbering.{numbered, numbered_task, numbered_tasks, numbered_job, numbered_user, numbered_cluster}
use Rattle.tree_spec.specs.Trees.{task_numbers}
use Rattle.tree_spec.specs.Walk.{Node, OfCluster, OfUser, OfJob, cluster_nodes, walk, is_childless}
use Rattle.doc_passes.specs.Limits.{sum_of}
use Rattle.doc_passes.specs.Counts.{group_tasks, task_count}
use Rattle.doc_parts.specs.Links.{link_part}
use Rattle.cluster_parts.specs.TreeParts.{weights_of, job_part, user_part, cluster_part}
use Rattle.doc_names.specs.Owners.{not_owned}
use Rattle.doc_parts.specs.Document.{links_of, clusters_of, policy_fault}
use Rattle.doc_parts.specs.TooMany.{clusters_fault}
use Rattle.tree_spec.proofs.Numbers.{length-numbered}
use Rattle.doc_parts.proofs.NodeFacts.{length-task_numbers}
use Rattle.doc_maker.specs.Made.{Size, IsSize, made_link, made_task, tasks_of, made_job, made_user, made_group, made}
use Rattle.doc_maker.specs.Accepting.{walked_tasks, place_of, numbered_path, numbered_group, numbered_report}
use Rattle.doc_maker.proofs.accepting.Walks.{numbers_below, contains_number, contains_filter, contains_task, length-walked}
use Rattle.doc_maker.proofs.accepting.Places.{place_within, stands_at_place}
use Rattle.doc_maker.proofs.accepting.Parts.{length-links}
use Rattle.doc_maker.proofs.accepting.Limits.{length-numbers}

-- ---- path groups

abbrev sites : networks.Link → Sites
sites link = record { from = link.from; to = link.to }

module _ (size : Size) (right : IsSize size) where
  abbrev network : Network
  network = network_of (links_of (made size))

  -- each link leads from a to b
  link_sites : (link : ℕ) → link < size.groups → sites_of network link ≡ record { from = codes "a"; to = codes "b" }
  link_sites link below =
      get_or-map sites (links_of (made size)) link (link_part (made_link size 0)) (record { from = []; to = [] }) (omega (arith, length-links size))
      ∙ ap sites (get_or-map link_part (map (made_link size) (numbers size.groups)) link (made_link size 0) (link_part (made_link size 0)) (omega (arith, length-numbers (made_link size) size.groups))
      ∙ ap link_part (get_or-map (made_link size) (numbers size.groups) link 0 (made_link size 0) (omega (arith, length-range_with_len 0 size.groups))))

  path_right : (number group place path_number weight link : ℕ) → link < size.groups → 1 ≤ weight → weight ≤ 1_000
      → path_fault network number (numbered_group size group) place path_number (numbered_path weight link) ≡ None
  unfolding path_fault leads repeats
  path_right number group place path_number weight link below some few =
      rw (le-ltb weight 1 some, le-ltb 1_000 weight few, link_sites link below) refl

  group_right : (number group : ℕ) → group < size.groups → group_fault network number (numbered_group size group) ≡ None
  unfolding group_fault path_group_fault first_fault
  group_right number group below =
      rw (
        path_right number group 0 0 1 (group / 2) (omega arith) (omega arith) (omega arith),
        path_right number group 1 0 1 ((group + 1) % size.groups) (omega arith) (omega arith) (omega arith),
        path_right number group 1 1 2 ((group + 2) % size.groups) (omega arith) (omega arith) (omega arith),
      ) refl

  groups_right : (number : ℕ) (groups : List ℕ) → All (λ group. group < size.groups) groups → first_fault (group_fault network) number (map (numbered_group size) groups) ≡ None
  unfolding first_fault
  groups_right number [] below = refl
  groups_right number (group ∷ groups) below =
      rw (group_right number group (All-head (λ group. group < size.groups) group groups below), groups_right (suc number) groups (All-tail (λ group. group < size.groups) group groups below)) refl

  pub made_plan : plan_fault network (map (numbered_group size) (numbers size.groups)) ≡ None
  unfolding plan_fault
  made_plan = groups_right 0 (numbers size.groups) (numbers_below size.groups)

-- ---- the tree

-- no item passes
none_passes : {A : Type 0} (test : A → Bool) (items : List A) → All (λ item. test item ≡ false) items → position test items ≡ None
none_passes test [] fails = refl
none_passes test (item ∷ items) fails =
    let all : position_or_len test (item ∷ items) ≡ length (item ∷ items) = position_or_len_is test (item ∷ items) (length (item ∷ items)) item (omega arith) (λ k earlier. fails k item earlier) (λ within. absurd (omega arith)) in
    rw (all, le-ltb (length (item ∷ items)) (length (item ∷ items)) (omega arith)) refl

-- so many tasks, and at least one
has_task : (size : Size) → IsSize size → (group : ℕ) → group < size.groups → 0 < length (tasks_of size group)
has_task size right group below =
    let found = contains_filter (λ task. task % size.groups == group) (numbers size.tasks) group (eq-eqb (group % size.groups) group (mod-eq_of_lt below)) (contains_number size.tasks group (omega arith)) in
    omega (arith, found.1)

module _ (size : Size) where
  abbrev part : ℕ → ClusterState
  part group = cluster_part 1_000_000 (made_group size group)

  length-job : (first group : ℕ) → length (numbered_tasks first (map without_demand (weights_of (made_job size group)))) ≡ length (tasks_of size group)
  length-job first group =
      length-numbered (λ task. 1) numbered_task first (map without_demand (weights_of (made_job size group)))
      ∙ length-map (weights_of (made_job size group)) without_demand ∙ length-map (map made_task (tasks_of size group)) (λ (task : Task). task.weight) ∙ length-map (tasks_of size group) made_task

  abbrev IsFull : Node → Type 0
  IsFull node = is_childless node ≡ false

  cluster_full : (first group : ℕ) → 0 < length (tasks_of size group) → All IsFull (cluster_nodes (numbered_cluster first (part group)))
  unfolding numbered
  cluster_full first group some =
      let job = OfJob (numbered_job first (job_part 1_000_000 (made_job size group))) in
      let user = OfUser (numbered_user first (user_part 1_000_000 (made_user size group))) in
      All-cons IsFull (OfCluster (numbered_cluster first (part group))) (user ∷ job ∷ []) refl
      (All-cons IsFull user (job ∷ []) refl
      (All-cons IsFull job [] (ap (λ count. count == 0) (length-job first group) ∙ ne_eqb (length (tasks_of size group)) 0 (λ none. omega arith)) (All-nil IsFull)))

  clusters_full : (first : ℕ) (groups : List ℕ) → All (λ group. 0 < length (tasks_of size group)) groups
      → All IsFull (walk (numbered cluster_tasks numbered_cluster first (map (cluster_part 1_000_000) (map (made_group size) groups))))
  unfolding numbered
  clusters_full first [] some = All-nil IsFull
  clusters_full first (group ∷ groups) some =
      All-append IsFull (cluster_nodes (numbered_cluster first (part group))) (walk (numbered cluster_tasks numbered_cluster (first + cluster_tasks (part group)) (map (cluster_part 1_000_000) (map (made_group size) groups))))
      (cluster_full first group (All-head (λ group. 0 < length (tasks_of size group)) group groups some))
      (clusters_full (first + cluster_tasks (part group)) groups (All-tail (λ group. 0 < length (tasks_of size group)) group groups some))

  tasks_in : (groups : List ℕ) → task_count (map (made_group size) groups) ≡ sum_by (λ group. length (tasks_of size group)) groups
  unfolding sum_of
  tasks_in [] = refl
  tasks_in (group ∷ groups) =
      let later : task_count (map (made_group size) groups) ≡ sum_by (λ group. length (tasks_of size group)) groups = tasks_in groups in
      let here : group_tasks (made_group size group) ≡ length (tasks_of size group) = omega (arith, length-map (tasks_of size group) made_task) in
      omega (arith, sum_by-cons (λ group. length (tasks_of size group)) group groups)

  pub length-tasks : 0 < size.groups → task_count (made size).groups ≡ size.tasks
  length-tasks some = tasks_in (numbers size.groups) ∙ sym (length-flat_map (tasks_of size) (numbers size.groups)) ∙ length-walked size some

pub made_tree : (size : Size) → IsSize size → policy_fault (made size) ≡ None
unfolding clusters_fault
made_tree size right =
    let full : All (IsFull size) (walk (clusters_of (made size))) = clusters_full size 0 (numbers size.groups) (All-weaker (λ group. group < size.groups) (λ group. 0 < length (tasks_of size group)) (has_task size right) (numbers size.groups) (numbers_below size.groups)) in
    let count : length (task_numbers (clusters_of (made size))) ≡ size.tasks = length-task_numbers 1_000_000 (made size).groups ∙ length-tasks size (omega arith) in
    rw (none_passes is_childless (walk (clusters_of (made size))) full, le-ltb 1_048_576 (length (task_numbers (clusters_of (made size)))) (omega arith), le-ltb 20_000 (length (task_numbers (clusters_of (made size)))) (omega arith)) refl

-- ---- the script

module _ (size : Size) (right : IsSize size) where
  abbrev owners : List ℕ
  owners = map (λ task. task % 4) (walked_tasks size)

  owner_at_place : (task : ℕ) → task < size.tasks → slice_get owners (place_of size task) ≡ Some (task % 4)
  owner_at_place task below =
      let found = contains_task size task (omega arith) below in
      let within : place_of size task < length (walked_tasks size) = place_within task (walked_tasks size) found in
      slice_get-get_or owners (place_of size task) 0 (omega (arith, length-map (walked_tasks size) (λ task. task % 4)))
      ∙ ap Some (get_or-map (λ task. task % 4) (walked_tasks size) (place_of size task) 0 0 within ∙ ap (λ task. task % 4) (stands_at_place task (walked_tasks size) 0 found))

  script_owned : (link_owners : List (Option ℕ)) (place : ℕ) (tasks : List ℕ) → All (λ task. task < size.tasks) tasks → not_owned owners link_owners place (map (numbered_report size) tasks) ≡ None
  unfolding not_owned
  script_owned link_owners place [] below = refl
  script_owned link_owners place (task ∷ tasks) below =
      rw (owner_at_place task (All-head (λ task. task < size.tasks) task tasks below), eq-eqb (task % 4) (task % 4) refl)
      (script_owned link_owners (suc place) tasks (All-tail (λ task. task < size.tasks) task tasks below))

  pub made_owned : not_owned owners (map (λ link. None) (numbers size.groups)) 0 (map (numbered_report size) (numbers size.tasks)) ≡ None
  made_owned = script_owned (map (λ link. None) (numbers size.groups)) 0 (numbers size.tasks) (numbers_below size.tasks)
