-- The states of the nodes as the clusters of the definitions: with numbers, and without demands.
use Rattle.std.specs.Prelude.{ℕ, ◌+◌, List, [], ◌∷◌, map, flat_map, Option, option_map}
use Rattle.bwe_specs.specs.FunctionValue.{Point}
use Rattle.bwe_specs.specs.Tree.{Weighted, Job, User, Cluster}
use Rattle.bw_function.specs.BwFunction.{Function}
use Rattle.tree_spec.specs.declared.task.Task.{Task}
use Rattle.tree_spec.specs.States.{JobState, UserState, ClusterState, job_tasks, user_tasks, cluster_tasks}

-- each item of a list, told the number of its first task, where the list begins at a number
unfoldable pub numbered : {X Y : Type 0} → (X → ℕ) → (ℕ → X → Y) → ℕ → List X → List Y
numbered tasks item first [] = []
numbered tasks item first (x ∷ xs) = item first x ∷ numbered tasks item (first + tasks x) xs

-- the points of a configured function
abbrev pub points_by : Option Function → Option (List Point)
points_by configured = option_map (λ function. function.points) configured

abbrev pub numbered_task : ℕ → Task → Weighted
numbered_task number task = record { number = number; weight = task.weight }

abbrev pub numbered_tasks : ℕ → List Task → List Weighted
numbered_tasks first tasks = numbered (λ task. 1) numbered_task first tasks

abbrev pub numbered_job : ℕ → JobState → Job
numbered_job first job =
    record {
      configured = points_by job.configured;
      task = job.sum.function.points;
      tasks = numbered_tasks first job.sum.tasks;
    }

abbrev pub numbered_jobs : ℕ → List JobState → List Job
numbered_jobs first jobs = numbered job_tasks numbered_job first jobs

abbrev pub numbered_user : ℕ → UserState → User
numbered_user first user =
    record { configured = points_by user.configured; jobs = numbered_jobs first user.jobs }

abbrev pub numbered_users : ℕ → List UserState → List User
numbered_users first users = numbered user_tasks numbered_user first users

abbrev pub numbered_cluster : ℕ → ClusterState → Cluster
numbered_cluster first cluster =
    record { configured = points_by cluster.configured; users = numbered_users first cluster.users }

-- the clusters of a tree: tasks are numbered from 0, in one walk
abbrev pub numbered_clusters : List ClusterState → List Cluster
numbered_clusters clusters = numbered cluster_tasks numbered_cluster 0 clusters

-- the demands in the order of the numbers
abbrev pub job_demands : JobState → List ℕ
job_demands job = map (λ task. task.demand) job.sum.tasks

abbrev pub user_demands : UserState → List ℕ
user_demands user = flat_map job_demands user.jobs

abbrev pub cluster_demands : ClusterState → List ℕ
cluster_demands cluster = flat_map user_demands cluster.users

abbrev pub demands_of : List ClusterState → List ℕ
demands_of clusters = flat_map cluster_demands clusters
