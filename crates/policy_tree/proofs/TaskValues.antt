-- Where a task is, its value stands in the list of all tasks' values at its number.
use Rattle.std.proofs.Common.{◌≡◌, ℕ, ◌+◌, ◌<◌, List, [], ◌∷◌, ◌++◌, length, get_or, take, flat_map, refl, sym, ◌∙◌, ap, ap₂, arith, subst}
use Rattle.std.proofs.lemmas.List.{length-map, length-append, get_or-map}
use Rattle.std.proofs.lemmas.List.Concat.{get_or-flat_map}
use Rattle.bwe_specs.specs.Tree.{task_value, task_values}
use Rattle.policy_tree.specs.declared.home.Home.{Home}
use Rattle.policy_tree.specs.States.{JobState, UserState, ClusterState, job_tasks, user_tasks, cluster_tasks}
use Rattle.policy_tree.specs.Changes.{job_at, user_at, cluster_at}
use Rattle.tree_spec.specs.Numbering.{numbered}
use Rattle.policy_tree.specs.Numbering.{numbered_job, numbered_user, numbered_cluster, numbered_clusters, job_demands, user_demands, cluster_demands, demands_of}
use Rattle.policy_tree.specs.Nodes.{Agrees}
use Rattle.policy_tree.specs.Trees.{demand_in, tree_of}
use Rattle.policy_tree.specs.TaskValues.{user_task_values, cluster_task_values, task_value_in, value_at, job_task_values}
use Rattle.policy_tree.proofs.Numbers.{agrees-left, agrees-right}
use Rattle.policy_tree.proofs.Agreement.{tasks-agree, length-job_demands, length-user_demands, length-cluster_demands}
use Rattle.policy_tree.proofs.Homes.{IsAt, within_all}

-- the values of the tasks of nodes, as the code has them
abbrev user_values : UserState → List (ℕ → ℕ)
user_values user = flat_map job_task_values user.jobs

abbrev cluster_values : ClusterState → List (ℕ → ℕ)
cluster_values cluster = flat_map user_values cluster.users

flat-agree : {X Y : Type 0} (tasks : X → ℕ) (item : ℕ → X → Y) (demands : X → List ℕ) (values : Y → List (ℕ → ℕ)) (meanings : X → List (ℕ → ℕ)) (demand : ℕ → ℕ)
    → ((x : X) → length (demands x) ≡ tasks x)
    → ((first : ℕ) (x : X) → Agrees demand first (demands x) → values (item first x) ≡ meanings x)
    → (first : ℕ) (xs : List X) → Agrees demand first (flat_map demands xs)
    → flat_map values (numbered tasks item first xs) ≡ flat_map meanings xs
unfolding numbered
flat-agree tasks item demands values meanings demand size same first [] agrees = refl
flat-agree tasks item demands values meanings demand size same first (x ∷ xs) agrees =
    ap₂ (λ head rest. head ++ rest)
    (same first x (agrees-left demand first (demands x) (flat_map demands xs) agrees))
    (flat-agree tasks item demands values meanings demand size same (first + tasks x) xs
    (subst (λ n. Agrees demand (first + n) (flat_map demands xs)) (size x) (agrees-right demand first (demands x) (flat_map demands xs) agrees)))

job-values : (demand : ℕ → ℕ) (first : ℕ) (job : JobState) → Agrees demand first (job_demands job) → task_values demand (numbered_job first job) ≡ job_task_values job
job-values demand first job agrees = tasks-agree job.sum.function.points demand first job.sum.tasks agrees

user-values : (demand : ℕ → ℕ) (first : ℕ) (user : UserState) → Agrees demand first (user_demands user) → user_task_values demand (numbered_user first user) ≡ user_values user
user-values demand first user agrees = flat-agree job_tasks numbered_job job_demands (task_values demand) job_task_values demand length-job_demands (job-values demand) first user.jobs agrees

cluster-values : (demand : ℕ → ℕ) (first : ℕ) (cluster : ClusterState) → Agrees demand first (cluster_demands cluster) → cluster_task_values demand (numbered_cluster first cluster) ≡ cluster_values cluster
cluster-values demand first cluster agrees =
    flat-agree user_tasks numbered_user user_demands (user_task_values demand) user_values demand length-user_demands (user-values demand) first cluster.users agrees

all-values : (top : ℕ) (clusters : List ClusterState) → flat_map (cluster_task_values (demand_in (tree_of top clusters))) (numbered_clusters clusters) ≡ flat_map cluster_values clusters
all-values top clusters =
    let demand = demand_in (tree_of top clusters) in
    let agrees : Agrees demand 0 (demands_of clusters) = record { at = λ place within. let e : 0 + place ≡ place = omega arith in ap demand e } in
    flat-agree cluster_tasks numbered_cluster cluster_demands (cluster_task_values demand) cluster_values demand length-cluster_demands (cluster-values demand) 0 clusters agrees

-- there are as many values as demands
lengths-of : {X : Type 0} (demands : X → List ℕ) (values : X → List (ℕ → ℕ)) → ((x : X) → length (values x) ≡ length (demands x)) → (xs : List X) → length (flat_map values xs) ≡ length (flat_map demands xs)
lengths-of demands values same [] = refl
lengths-of demands values same (x ∷ xs) =
    omega (arith, length-append (values x) (flat_map values xs), length-append (demands x) (flat_map demands xs), same x, lengths-of demands values same xs)

job-length : (job : JobState) → length (job_task_values job) ≡ length (job_demands job)
job-length job = length-map job.sum.tasks (λ task. task_value job.sum.function.points task.weight task.demand) ∙ sym (length-map job.sum.tasks (λ task. task.demand))

user-length : (user : UserState) → length (user_values user) ≡ length (user_demands user)
user-length user = lengths-of job_demands job_task_values job-length user.jobs

cluster-length : (cluster : ClusterState) → length (cluster_values cluster) ≡ length (cluster_demands cluster)
cluster-length cluster = lengths-of user_demands user_values user-length cluster.users

-- the value at the number
pub value-at : (top : ℕ) (clusters : List ClusterState) (number share : ℕ) (home : Home) → IsAt clusters number home
    → task_value_in (tree_of top clusters) number share ≡ value_at (job_at (user_at (cluster_at clusters home.cluster).users home.user).jobs home.job) home.task share
value-at top clusters number share home is =
    let cluster = cluster_at clusters home.cluster in
    let user = user_at cluster.users home.user in
    let job = job_at user.jobs home.job in
    let in_job : home.task < length (job_task_values job) = omega (arith, is.task, length-map job.sum.tasks (λ task. task_value job.sum.function.points task.weight task.demand)) in
    let in_user : length (flat_map job_task_values (take home.job user.jobs)) + home.task < length (user_values user) = within_all job_task_values user.jobs home.job home.task _ is.job in_job in
    let in_cluster : length (flat_map user_values (take home.user cluster.users)) + (length (flat_map job_task_values (take home.job user.jobs)) + home.task) < length (cluster_values cluster) =
    within_all user_values cluster.users home.user _ _ is.user in_user in
    let place : number ≡ length (flat_map cluster_values (take home.cluster clusters)) + (length (flat_map user_values (take home.user cluster.users)) + (length (flat_map job_task_values (take home.job user.jobs)) + home.task)) =
    omega (
      arith,
      is.counted,
      lengths-of cluster_demands cluster_values cluster-length (take home.cluster clusters),
      lengths-of user_demands user_values user-length (take home.user cluster.users),
      lengths-of job_demands job_task_values job-length (take home.job user.jobs),
    ) in
    ap {B = ℕ} (λ (value : ℕ → ℕ). value share)
    (ap {B = ℕ → ℕ} (λ (values : List (ℕ → ℕ)). get_or values number (λ s. 0)) (all-values top clusters)
    ∙ ap {B = ℕ → ℕ} (λ n. get_or (flat_map cluster_values clusters) n (λ s. 0)) place
    ∙ get_or-flat_map cluster_values clusters home.cluster _ _ (λ s. 0) is.cluster in_cluster
    ∙ get_or-flat_map user_values cluster.users home.user _ _ (λ s. 0) is.user in_user
    ∙ get_or-flat_map job_task_values user.jobs home.job _ _ (λ s. 0) is.job in_job
    ∙ get_or-map (λ task. task_value job.sum.function.points task.weight task.demand) job.sum.tasks home.task _ (λ s. 0) is.task)
