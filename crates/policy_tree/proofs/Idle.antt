-- The tree that nobody has asked anything of.
use Rattle.std.proofs.Common.{◌≡◌, ℕ, List, [], ◌∷◌, ◌++◌, length, map, flat_map, replicate, sum_by, All, refl, sym, ◌∙◌, ap, ap₂, arith}
use Rattle.std.proofs.lemmas.List.{length-map, replicate-append-replicate}
use Rattle.std.proofs.lemmas.List.Elements.{All-map, All-weaker}
use Rattle.std.proofs.lemmas.List.Sums.{sum_by-cons}
use Rattle.tree_spec.specs.declared.task.Task.{Task}
use Rattle.tree_spec.specs.Tasks.{without_demand}
use Rattle.policy_tree.specs.Numbering.{job_demands, user_demands, cluster_demands, demands_of}
use Rattle.policy_tree.specs.Kept.{HaveJobTop, HaveUserTop, HaveClusterTop}
use Rattle.tree_spec.specs.declared.spec.JobSpec.{JobSpec}
use Rattle.tree_spec.specs.declared.spec.UserSpec.{UserSpec}
use Rattle.tree_spec.specs.declared.spec.ClusterSpec.{ClusterSpec}
use Rattle.policy_tree.specs.States.{job_tasks, user_tasks, cluster_tasks}
use Rattle.policy_tree.specs.Asked.{idle_job, idle_user, idle_cluster, job_weights, user_weights, cluster_weights, HasJobTop, HasUserTop, HasClusterTop}

-- there are as many tasks as weights
pub idle_jobs-tasks : (jobs : List JobSpec) → sum_by job_tasks (map idle_job jobs) ≡ sum_by job_weights jobs
idle_jobs-tasks [] = refl
idle_jobs-tasks (job ∷ jobs) =
    omega (
      arith,
      sum_by-cons job_tasks (idle_job job) (map idle_job jobs),
      sum_by-cons job_weights job jobs,
      length-map job.weights.items without_demand,
      idle_jobs-tasks jobs,
    )

pub idle_users-tasks : (users : List UserSpec) → sum_by user_tasks (map idle_user users) ≡ sum_by user_weights users
idle_users-tasks [] = refl
idle_users-tasks (user ∷ users) =
    omega (
      arith,
      sum_by-cons user_tasks (idle_user user) (map idle_user users),
      sum_by-cons user_weights user users,
      idle_jobs-tasks user.jobs.items,
      idle_users-tasks users,
    )

pub idle_clusters-tasks : (clusters : List ClusterSpec) → sum_by cluster_tasks (map idle_cluster clusters) ≡ sum_by cluster_weights clusters
idle_clusters-tasks [] = refl
idle_clusters-tasks (cluster ∷ clusters) =
    omega (
      arith,
      sum_by-cons cluster_tasks (idle_cluster cluster) (map idle_cluster clusters),
      sum_by-cons cluster_weights cluster clusters,
      idle_users-tasks cluster.users.items,
      idle_clusters-tasks clusters,
    )

-- every demand is 0
zeros-of : {X S : Type 0} (idle : X → S) (demands : S → List ℕ) (size : S → ℕ) → ((x : X) → demands (idle x) ≡ replicate (size (idle x)) 0)
    → (xs : List X) → flat_map demands (map idle xs) ≡ replicate (sum_by size (map idle xs)) 0
zeros-of idle demands size each [] = refl
zeros-of idle demands size each (x ∷ xs) =
    ap₂ (λ head rest. head ++ rest) (each x) (zeros-of idle demands size each xs)
    ∙ replicate-append-replicate (size (idle x)) (sum_by size (map idle xs)) 0
    ∙ ap (λ n. replicate n 0) (sym (sum_by-cons size (idle x) (map idle xs)))

tasks-zeros : (weights : List ℕ) → map (λ (task : Task). task.demand) (map without_demand weights) ≡ replicate (length (map without_demand weights)) 0
tasks-zeros [] = refl
tasks-zeros (weight ∷ weights) = ap (λ rest. 0 ∷ rest) (tasks-zeros weights)

pub idle-demands : (clusters : List ClusterSpec) → demands_of (map idle_cluster clusters) ≡ replicate (sum_by cluster_tasks (map idle_cluster clusters)) 0
idle-demands =
    zeros-of idle_cluster cluster_demands cluster_tasks
    (λ cluster. zeros-of idle_user user_demands user_tasks
    (λ user. zeros-of idle_job job_demands job_tasks (λ job. tasks-zeros job.weights.items) user.jobs.items)
    cluster.users.items)

-- the functions have the top of the spec
idle_job-top : (top : ℕ) (job : JobSpec) → HasJobTop top job → HaveJobTop top (idle_job job)
idle_job-top top job has = record { configured = has.configured; task = has.task }

idle_user-top : (top : ℕ) (user : UserSpec) → HasUserTop top user → HaveUserTop top (idle_user user)
idle_user-top top user has = record {
  configured = has.configured;
  jobs = All-map (HaveJobTop top) idle_job user.jobs.items (All-weaker (HasJobTop top) (λ job. HaveJobTop top (idle_job job)) (idle_job-top top) user.jobs.items has.jobs);
}

idle_cluster-top : (top : ℕ) (cluster : ClusterSpec) → HasClusterTop top cluster → HaveClusterTop top (idle_cluster cluster)
idle_cluster-top top cluster has = record {
  configured = has.configured;
  users = All-map (HaveUserTop top) idle_user cluster.users.items (All-weaker (HasUserTop top) (λ user. HaveUserTop top (idle_user user)) (idle_user-top top) cluster.users.items has.users);
}

pub idle_clusters-top : (top : ℕ) (clusters : List ClusterSpec) → All (HasClusterTop top) clusters → All (HaveClusterTop top) (map idle_cluster clusters)
idle_clusters-top top clusters have =
    All-map (HaveClusterTop top) idle_cluster clusters (All-weaker (HasClusterTop top) (λ cluster. HaveClusterTop top (idle_cluster cluster)) (idle_cluster-top top) clusters have)
