-- The numbers of the tasks in their walk.
use Rattle.std.proofs.Common.{◌≡◌, ℕ, List, [], ◌∷◌, ◌++◌, length, map, flat_map, refl, sym, ◌∙◌, ap, ap₂}
use Rattle.std.specs.List.{range_with_len}
use Rattle.std.proofs.lemmas.List.{length-map, map-append}
use Rattle.std.proofs.lemmas.List.FromFn.{length-range_with_len}
use Rattle.bwe_specs.specs.Reports.{numbers}
use Rattle.bwe_specs.specs.Tree.{Weighted, Job, User, Cluster}
use Rattle.table_laws.specs.Tasks.{JobTask, AreNumbered, tasks_of_job, tasks_of_user, tasks_of_cluster, tasks_of}

-- the numbers of the tasks of each kind of node
abbrev pub numbers_of_job : Job → List ℕ
numbers_of_job job = map (λ task. task.number) job.tasks

abbrev pub numbers_of_user : User → List ℕ
numbers_of_user user = flat_map numbers_of_job user.jobs

abbrev pub numbers_of_cluster : Cluster → List ℕ
numbers_of_cluster cluster = flat_map numbers_of_user cluster.users

abbrev pub number_of : JobTask → ℕ
number_of given = given.task.number

children-numbers : {X : Type 0} (tasks : X → List JobTask) (numbers : X → List ℕ) → ((x : X) → map number_of (tasks x) ≡ numbers x) → (xs : List X) → map number_of (flat_map tasks xs) ≡ flat_map numbers xs
children-numbers tasks numbers same [] = refl
children-numbers tasks numbers same (x ∷ xs) =
    map-append number_of (tasks x) (flat_map tasks xs) ∙ ap₂ (λ one more. one ++ more) (same x) (children-numbers tasks numbers same xs)

job-numbers : (job : Job) → map number_of (tasks_of_job job) ≡ numbers_of_job job
job-numbers job = go job.tasks where
  go : (tasks : List Weighted) → map number_of (map (λ (task : Weighted). record { function = job.task; task = task }) tasks) ≡ map (λ (task : Weighted). task.number) tasks
  go [] = refl
  go (task ∷ tasks) = ap (λ list. task.number ∷ list) (go tasks)

user-numbers : (user : User) → map number_of (tasks_of_user user) ≡ numbers_of_user user
user-numbers user = children-numbers tasks_of_job numbers_of_job job-numbers user.jobs

cluster-numbers : (cluster : Cluster) → map number_of (tasks_of_cluster cluster) ≡ numbers_of_cluster cluster
cluster-numbers cluster = children-numbers tasks_of_user numbers_of_user user-numbers cluster.users

-- and of all clusters
pub walk-numbers : (clusters : List Cluster) → map number_of (tasks_of clusters) ≡ flat_map numbers_of_cluster clusters
walk-numbers clusters = children-numbers tasks_of_cluster numbers_of_cluster cluster-numbers clusters

-- clusters whose numbers are a row from 0 are numbered
pub numbered : (clusters : List Cluster) (count : ℕ) → flat_map numbers_of_cluster clusters ≡ range_with_len 0 count → AreNumbered clusters
numbered clusters count are =
    let walk : map number_of (tasks_of clusters) ≡ range_with_len 0 count = walk-numbers clusters ∙ are in
    walk ∙ ap numbers (sym (length-range_with_len 0 count) ∙ sym (ap length walk) ∙ length-map (tasks_of clusters) number_of)
