-- A tree has a node without children where the groups of its document have one.
use Rattle.std.proofs.Common.{◌≡◌, ℕ, ◌+◌, ◌<◌, ◌≤◌, ◌==◌, Bool, true, false, ◌||◌, cond, List, [], ◌∷◌, length, map, drop, get_or, Some, None, refl, sym, ap, ap₂, ◌∙◌}
use Rattle.std.specs.Prelude.{position}
use Rattle.std.specs.List.{list_any, flat_map, position_from}
use Rattle.std.proofs.Math.Bool.{or-false}
use Rattle.std.proofs.lemmas.Iterator.Adapters.{position_from-zero}
use Rattle.std.proofs.lemmas.List.{drop_all, drop_more, length-map}
use Rattle.std.proofs.lemmas.List.Folds.{list_any-append}
use Rattle.tree_spec.specs.Tasks.{without_demand}
use Rattle.tree_spec.specs.States.{JobState, UserState, ClusterState, job_tasks, user_tasks, cluster_tasks}
use Rattle.tree_spec.specs.Numbering.{numbered, numbered_task, numbered_job, numbered_user, numbered_cluster, numbered_clusters}
use Rattle.tree_spec.specs.Walk.{Node, job_nodes, user_nodes, cluster_nodes, walk, is_childless}
use Rattle.tree_spec.proofs.Numbers.{length-numbered}
use Rattle.raw_document.specs.Raw as raw
use Rattle.cluster_parts.specs.Childless.{job_is_childless, user_has_childless, group_has_childless, has_childless}
use Rattle.cluster_parts.specs.TreeParts.{weights_of, job_part, user_part, cluster_part}

-- ---- loops that look for an item

module _ {V A : Type 0} (view_of : V → A) (test : A → Bool) where
  any-drop : (vs : List V) (i : ℕ) (v : V) → i < length vs → v ≡ get_or vs i v → list_any test (map view_of (drop i vs)) ≡ (test (view_of v) || list_any test (map view_of (drop (i + 1) vs)))
  any-drop vs i v within here = ap (λ rest. list_any test (map view_of rest)) (drop_more vs i v within ∙ ap (λ (u : V). u ∷ drop (i + 1) vs) (sym here))

  pub any_found : (vs : List V) (i : ℕ) (v : V) → i < length vs → v ≡ get_or vs i v → test (view_of v) ≡ true → list_any test (map view_of (drop i vs)) ≡ list_any test (map view_of vs) → true ≡ list_any test (map view_of vs)
  any_found vs i v within here found before = ap (λ b. b || list_any test (map view_of (drop (i + 1) vs))) (sym found) ∙ sym (any-drop vs i v within here) ∙ before

  pub any_later : (vs : List V) (i : ℕ) (v : V) → i < length vs → v ≡ get_or vs i v → test (view_of v) ≡ false → list_any test (map view_of (drop i vs)) ≡ list_any test (map view_of vs)
      → list_any test (map view_of (drop (i + 1) vs)) ≡ list_any test (map view_of vs)
  any_later vs i v within here not_it before = ap (λ b. b || list_any test (map view_of (drop (i + 1) vs))) (sym not_it) ∙ sym (any-drop vs i v within here) ∙ before

  pub any_none : (vs : List V) (i : ℕ) → length vs ≤ i → list_any test (map view_of (drop i vs)) ≡ list_any test (map view_of vs) → false ≡ list_any test (map view_of vs)
  any_none vs i past before = sym (ap (λ rest. list_any test (map view_of rest)) (drop_all i vs past)) ∙ before

pub user_bare : (user : raw.User) → (length user.jobs == 0) ≡ true → user_has_childless user ≡ true
unfolding user_has_childless
user_bare user none = ap (λ b. b || list_any job_is_childless user.jobs) none

pub user_full : (user : raw.User) → (length user.jobs == 0) ≡ false → user_has_childless user ≡ list_any job_is_childless user.jobs
unfolding user_has_childless
user_full user some = ap (λ b. b || list_any job_is_childless user.jobs) some

pub group_bare : (group : raw.Group) → (length group.users == 0) ≡ true → group_has_childless group ≡ true
unfolding group_has_childless
group_bare group none = ap (λ b. b || list_any user_has_childless group.users) none

pub group_full : (group : raw.Group) → (length group.users == 0) ≡ false → group_has_childless group ≡ list_any user_has_childless group.users
unfolding group_has_childless
group_full group some = ap (λ b. b || list_any user_has_childless group.users) some

-- ---- the nodes of the tree

module _ {X Y Z : Type 0} (tasks : X → ℕ) (item : ℕ → X → Y) (nodes : Y → List Z) (test : Z → Bool) (has : X → Bool) (same : (first : ℕ) (x : X) → list_any test (nodes (item first x)) ≡ has x) where
  any-numbered : (first : ℕ) (xs : List X) → list_any test (flat_map nodes (numbered tasks item first xs)) ≡ list_any has xs
  unfolding numbered
  any-numbered first [] = refl
  any-numbered first (x ∷ xs) =
      list_any-append test (nodes (item first x)) (flat_map nodes (numbered tasks item (first + tasks x) xs))
      ∙ ap₂ (λ here later. here || later) (same first x) (any-numbered (first + tasks x) xs)

any-map : {A B : Type 0} (part : A → B) (has : B → Bool) (had : A → Bool) → ((a : A) → has (part a) ≡ had a) → (items : List A) → list_any has (map part items) ≡ list_any had items
any-map part has had same [] = refl
any-map part has had same (item ∷ items) = ap₂ (λ here later. here || later) (same item) (any-map part has had same items)

job_none : JobState → Bool
job_none job = length job.sum.tasks == 0

user_none : UserState → Bool
user_none user = length user.jobs == 0 || list_any job_none user.jobs

cluster_none : ClusterState → Bool
cluster_none cluster = length cluster.users == 0 || list_any user_none cluster.users

job_same : (first : ℕ) (job : JobState) → list_any is_childless (job_nodes (numbered_job first job)) ≡ job_none job
unfolding job_none
job_same first job =
    or-false (is_childless_of (length (numbered_job first job).tasks))
    ∙ ap is_childless_of (length-numbered (λ task. 1) numbered_task first job.sum.tasks) where
      is_childless_of : ℕ → Bool
      is_childless_of count = count == 0

user_same : (first : ℕ) (user : UserState) → list_any is_childless (user_nodes (numbered_user first user)) ≡ user_none user
unfolding user_none
user_same first user =
    ap₂ (λ (count : ℕ) later. count == 0 || later)
    (length-numbered job_tasks numbered_job first user.jobs)
    (any-numbered job_tasks numbered_job job_nodes is_childless job_none job_same first user.jobs)

cluster_same : (first : ℕ) (cluster : ClusterState) → list_any is_childless (cluster_nodes (numbered_cluster first cluster)) ≡ cluster_none cluster
unfolding cluster_none
cluster_same first cluster =
    ap₂ (λ (count : ℕ) later. count == 0 || later)
    (length-numbered user_tasks numbered_user first cluster.users)
    (any-numbered user_tasks numbered_user user_nodes is_childless user_none user_same first cluster.users)

job_part_none : (top : ℕ) (job : raw.Job) → job_none (job_part top job) ≡ job_is_childless job
unfolding job_none
job_part_none top job = ap (λ (count : ℕ). count == 0) (length-map (weights_of job) without_demand ∙ length-map job.tasks (λ (task : raw.Task). task.weight))

user_part_none : (top : ℕ) (user : raw.User) → user_none (user_part top user) ≡ user_has_childless user
unfolding user_none user_has_childless
user_part_none top user =
    ap₂ (λ (count : ℕ) later. count == 0 || later)
    (length-map user.jobs (job_part top)) (any-map (job_part top) job_none job_is_childless (job_part_none top) user.jobs)

cluster_part_none : (top : ℕ) (group : raw.Group) → cluster_none (cluster_part top group) ≡ group_has_childless group
unfolding cluster_none group_has_childless
cluster_part_none top group =
    ap₂ (λ (count : ℕ) later. count == 0 || later)
    (length-map group.users (user_part top)) (any-map (user_part top) user_none user_has_childless (user_part_none top) group.users)

any-walk : (top : ℕ) (groups : List raw.Group) → list_any is_childless (walk (numbered_clusters (map (cluster_part top) groups))) ≡ has_childless groups
any-walk top groups =
    any-numbered cluster_tasks numbered_cluster cluster_nodes is_childless cluster_none cluster_same 0 (map (cluster_part top) groups)
    ∙ any-map (cluster_part top) cluster_none group_has_childless (cluster_part_none top) groups

-- ---- the first of them

first-none : {A : Type 0} (test : A → Bool) (first : ℕ) (items : List A) → list_any test items ≡ false → position_from test first items ≡ None
first-none test first [] e = refl
first-none test first (item ∷ items) e = go (test item) refl (first-none test (first + 1) items) where
  go : (found : Bool) → test item ≡ found → (list_any test items ≡ false → position_from test (first + 1) items ≡ None) → cond found (Some first) (position_from test (first + 1) items) ≡ None
  go true is later = absurd (let wrong : true ≡ false = ap (λ b. b || list_any test items) (sym is) ∙ e in cc)
  go false is later = later (ap (λ b. b || list_any test items) (sym is) ∙ e)

none-first : {A : Type 0} (test : A → Bool) (first : ℕ) (items : List A) → position_from test first items ≡ None → list_any test items ≡ false
none-first test first [] e = refl
none-first test first (item ∷ items) e = go (test item) refl e (none-first test (first + 1) items) where
  go : (found : Bool) → test item ≡ found → cond found (Some first) (position_from test (first + 1) items) ≡ None → (position_from test (first + 1) items ≡ None → list_any test items ≡ false)
      → (test item || list_any test items) ≡ false
  go true is none later = absurd (cc)
  go false is none later = ap (λ b. b || list_any test items) is ∙ later none

pub no_childless : (top : ℕ) (groups : List raw.Group) → has_childless groups ≡ false → position is_childless (walk (numbered_clusters (map (cluster_part top) groups))) ≡ None
no_childless top groups none =
    let nodes : List Node = walk (numbered_clusters (map (cluster_part top) groups)) in
    position_from-zero is_childless nodes ∙ first-none is_childless 0 nodes (any-walk top groups ∙ none)

pub childless_none : (top : ℕ) (groups : List raw.Group) → position is_childless (walk (numbered_clusters (map (cluster_part top) groups))) ≡ None → has_childless groups ≡ false
childless_none top groups none =
    let nodes : List Node = walk (numbered_clusters (map (cluster_part top) groups)) in
    sym (any-walk top groups) ∙ none-first is_childless 0 nodes (sym (position_from-zero is_childless nodes) ∙ none)
