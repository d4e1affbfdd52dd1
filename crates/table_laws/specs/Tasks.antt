-- All tasks of a plan, in their walk, each with the function of its job.
use Rattle.std.specs.Prelude.{◌≡◌, ℕ, ◌*◌, ◌≤◌, List, length, map, flat_map, slice_index, All}
use Rattle.bwe_specs.specs.FunctionValue.{Point, function_value}
use Rattle.bwe_specs.specs.Tree.{Weighted, Job, User, Cluster}
use Rattle.bwe_specs.specs.Reports.{numbers}

-- a task, with the function of its job's tasks
pub record JobTask : Type 0 where
  pub function : List Point
  pub task : Weighted

-- the tasks of each kind of node, in the order of the walk
abbrev pub tasks_of_job : Job → List JobTask
tasks_of_job job = map (λ task. record { function = job.task; task = task }) job.tasks

abbrev pub tasks_of_user : User → List JobTask
tasks_of_user user = flat_map tasks_of_job user.jobs

abbrev pub tasks_of_cluster : Cluster → List JobTask
tasks_of_cluster cluster = flat_map tasks_of_user cluster.users

abbrev pub tasks_of : List Cluster → List JobTask
tasks_of clusters = flat_map tasks_of_cluster clusters

-- the tasks are numbered from 0 in one walk
abbrev pub AreNumbered : List Cluster → Type 0
AreNumbered clusters =
    map (λ given. given.task.number) (tasks_of clusters) ≡ numbers (length (tasks_of clusters))

-- the task's limit is at most its demand, and at most its weight times what its job's task function
-- gives at the top
pub record IsAskedFor (top : ℕ) (demand : ℕ → ℕ) (limits : List ℕ) (given : JobTask) : Type 0 where
  pub demanded : slice_index limits given.task.number ≤ demand given.task.number
  pub weighted : slice_index limits given.task.number
      ≤ given.task.weight * function_value given.function top

-- that is so of each task's limit
abbrev pub AreAskedFor : ℕ → (ℕ → ℕ) → List Cluster → List ℕ → Type 0
AreAskedFor top demand clusters limits = All (IsAskedFor top demand limits) (tasks_of clusters)
