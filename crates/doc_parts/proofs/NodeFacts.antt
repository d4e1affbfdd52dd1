-- How many nodes and tasks the tree of a document has.
use Rattle.std.proofs.Common.{◌≡◌, ℕ, ◌+◌, List, [], ◌∷◌, length, map, refl, ap, ◌∙◌, arith, length-append}
use Rattle.std.specs.List.{flat_map}
use Rattle.std.proofs.lemmas.List.{length-map}
use Rattle.tree_spec.specs.Tasks.{without_demand}
use Rattle.tree_spec.specs.States.{JobState, UserState, ClusterState, job_tasks, user_tasks, cluster_tasks}
use Rattle.tree_spec.specs.Numbering.{numbered, numbered_task, numbered_tasks, numbered_job, numbered_jobs, numbered_user, numbered_users, numbered_cluster, numbered_clusters}
use Rattle.tree_spec.specs.Trees as trees
use Rattle.tree_spec.specs.Walk as walks
use Rattle.tree_spec.proofs.Numbers.{length-numbered}
use Rattle.raw_document.specs.Raw as raw
use Rattle.doc_passes.specs.Limits.{sum_of}
use Rattle.doc_passes.specs.Counts as counts
use Rattle.doc_passes.proofs.Readings.{sum_of-one}
use Rattle.cluster_parts.specs.TreeParts.{weights_of, job_part, user_part, cluster_part}

module _ {X Y Z : Type 0} (tasks : X → ℕ) (item : ℕ → X → Y) (f : Y → List Z) (size : X → ℕ) (sized : (first : ℕ) (x : X) → length (f (item first x)) ≡ size x) where
  flat_map-numbered : (first : ℕ) (xs : List X) → length (flat_map f (numbered tasks item first xs)) ≡ sum_of size xs
  unfolding numbered sum_of
  flat_map-numbered first [] = refl
  flat_map-numbered first (x ∷ xs) =
      length-append (f (item first x)) (flat_map f (numbered tasks item (first + tasks x) xs))
      ∙ ap (λ n. n + length (flat_map f (numbered tasks item (first + tasks x) xs))) (sized first x)
      ∙ ap (λ n. size x + n) (flat_map-numbered (first + tasks x) xs)

sum_of-map : {A B : Type 0} (part : A → B) (size : B → ℕ) (count : A → ℕ) → ((a : A) → size (part a) ≡ count a) → (items : List A) → sum_of size (map part items) ≡ sum_of count items
unfolding sum_of
sum_of-map part size count same [] = refl
sum_of-map part size count same (item ∷ items) = ap (λ n. n + sum_of size (map part items)) (same item) ∙ ap (λ n. count item + n) (sum_of-map part size count same items)

-- ---- nodes

user_size : UserState → ℕ
user_size user = 1 + length user.jobs

cluster_size : ClusterState → ℕ
cluster_size cluster = 1 + sum_of user_size cluster.users

user_sized : (first : ℕ) (user : UserState) → length (walks.user_nodes (numbered_user first user)) ≡ user_size user
unfolding user_size
user_sized first user =
    let jobs : length (flat_map walks.job_nodes (numbered_jobs first user.jobs)) ≡ length user.jobs = flat_map-numbered job_tasks numbered_job walks.job_nodes (λ _. 1) (λ first job. refl) first user.jobs ∙ sum_of-one user.jobs in
    omega arith

cluster_sized : (first : ℕ) (cluster : ClusterState) → length (walks.cluster_nodes (numbered_cluster first cluster)) ≡ cluster_size cluster
unfolding cluster_size
cluster_sized first cluster =
    let users : length (flat_map walks.user_nodes (numbered_users first cluster.users)) ≡ sum_of user_size cluster.users = flat_map-numbered user_tasks numbered_user walks.user_nodes user_size user_sized first cluster.users in
    omega arith

user_same : (top : ℕ) (user : raw.User) → user_size (user_part top user) ≡ counts.user_nodes user
unfolding user_size
user_same top user = ap (λ n. 1 + n) (length-map user.jobs (job_part top))

cluster_same : (top : ℕ) (group : raw.Group) → cluster_size (cluster_part top group) ≡ counts.group_nodes group
unfolding cluster_size
cluster_same top group = ap (λ n. 1 + n) (sum_of-map (user_part top) user_size counts.user_nodes (user_same top) group.users)

pub length-walk : (top : ℕ) (groups : List raw.Group) → length (walks.walk (numbered_clusters (map (cluster_part top) groups))) ≡ counts.node_count groups
length-walk top groups =
    flat_map-numbered cluster_tasks numbered_cluster walks.cluster_nodes cluster_size cluster_sized 0 (map (cluster_part top) groups)
    ∙ sum_of-map (cluster_part top) cluster_size counts.group_nodes (cluster_same top) groups

-- ---- tasks

job_weight_count : JobState → ℕ
job_weight_count job = length job.sum.tasks

user_weight_count : UserState → ℕ
user_weight_count user = sum_of job_weight_count user.jobs

cluster_weight_count : ClusterState → ℕ
cluster_weight_count cluster = sum_of user_weight_count cluster.users

job_counted : (first : ℕ) (job : JobState) → length (trees.job_numbers (numbered_job first job)) ≡ job_weight_count job
unfolding job_weight_count
job_counted first job = length-map (numbered_tasks first job.sum.tasks) (λ task. task.number) ∙ length-numbered (λ task. 1) numbered_task first job.sum.tasks

user_counted : (first : ℕ) (user : UserState) → length (trees.user_numbers (numbered_user first user)) ≡ user_weight_count user
unfolding user_weight_count
user_counted first user = flat_map-numbered job_tasks numbered_job trees.job_numbers job_weight_count job_counted first user.jobs

cluster_counted : (first : ℕ) (cluster : ClusterState) → length (trees.cluster_numbers (numbered_cluster first cluster)) ≡ cluster_weight_count cluster
unfolding cluster_weight_count
cluster_counted first cluster = flat_map-numbered user_tasks numbered_user trees.user_numbers user_weight_count user_counted first cluster.users

job_tasks_same : (top : ℕ) (job : raw.Job) → job_weight_count (job_part top job) ≡ counts.job_tasks job
unfolding job_weight_count
job_tasks_same top job = length-map (weights_of job) without_demand ∙ length-map job.tasks (λ (task : raw.Task). task.weight)

user_tasks_same : (top : ℕ) (user : raw.User) → user_weight_count (user_part top user) ≡ counts.user_tasks user
unfolding user_weight_count
user_tasks_same top user = sum_of-map (job_part top) job_weight_count counts.job_tasks (job_tasks_same top) user.jobs

cluster_tasks_same : (top : ℕ) (group : raw.Group) → cluster_weight_count (cluster_part top group) ≡ counts.group_tasks group
unfolding cluster_weight_count
cluster_tasks_same top group = sum_of-map (user_part top) user_weight_count counts.user_tasks (user_tasks_same top) group.users

pub length-task_numbers : (top : ℕ) (groups : List raw.Group) → length (trees.task_numbers (numbered_clusters (map (cluster_part top) groups))) ≡ counts.task_count groups
length-task_numbers top groups =
    flat_map-numbered cluster_tasks numbered_cluster trees.cluster_numbers cluster_weight_count cluster_counted 0 (map (cluster_part top) groups)
    ∙ sum_of-map (cluster_part top) cluster_weight_count counts.group_tasks (cluster_tasks_same top) groups
