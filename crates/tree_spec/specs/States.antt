-- The nodes of a tree as the code keeps them: with the demands inside, and without numbers.
use Rattle.std.specs.Prelude.{ℕ, ◌≤◌, List, length, map, Option, Some, None, All, sum_by}
use Rattle.bwe_specs.specs.declared.limits.TheConstants.{MAX_TASKS}
use Rattle.bwe_specs.specs.Distribution.{children_sum}
use Rattle.bwe_specs.specs.Tree.{inner_share}
use Rattle.bw_function.specs.BwFunction.{Function, IsBwFunction}
use Rattle.tree_spec.specs.Tasks.{AreInRange, Tasks, tasks_value}

-- a job: its configured function, its tasks' function, and its tasks
pub record JobState : Type 0 where
  pub configured : Option Function
  pub sum : Tasks

pub record UserState : Type 0 where
  pub configured : Option Function
  pub jobs : List JobState

pub record ClusterState : Type 0 where
  pub configured : Option Function
  pub users : List UserState

-- how many tasks a node has
abbrev pub job_tasks : JobState → ℕ
job_tasks job = length job.sum.tasks

abbrev pub user_tasks : UserState → ℕ
user_tasks user = sum_by job_tasks user.jobs

abbrev pub cluster_tasks : ClusterState → ℕ
cluster_tasks cluster = sum_by user_tasks cluster.users

-- a node's value at a share, by its configured function and its children's sum
unfoldable pub transformed : Option Function → (ℕ → ℕ) → ℕ → ℕ
transformed None sum share = sum share
transformed (Some function) sum share = sum (inner_share function.top function.points sum share)

abbrev pub job_meaning : JobState → ℕ → ℕ
job_meaning job = transformed job.configured (tasks_value job.sum)

abbrev pub jobs_meaning : List JobState → ℕ → ℕ
jobs_meaning jobs = children_sum (map job_meaning jobs)

abbrev pub user_meaning : UserState → ℕ → ℕ
user_meaning user = transformed user.configured (jobs_meaning user.jobs)

abbrev pub users_meaning : List UserState → ℕ → ℕ
users_meaning users = children_sum (map user_meaning users)

abbrev pub cluster_meaning : ClusterState → ℕ → ℕ
cluster_meaning cluster = transformed cluster.configured (users_meaning cluster.users)

-- a configured function is one of a document
abbrev pub IsKeptFunction : Option Function → Type 0
IsKeptFunction None = Unit {0}
IsKeptFunction (Some function) = IsBwFunction function

-- functions, weights and demands are in their ranges, and there are not too many tasks
pub record IsJobState (job : JobState) : Type 0 where
  pub configured : IsKeptFunction job.configured
  pub function : IsBwFunction job.sum.function
  pub small : AreInRange job.sum.tasks

pub record IsUserState (user : UserState) : Type 0 where
  pub configured : IsKeptFunction user.configured
  pub jobs : All IsJobState user.jobs
  pub few : user_tasks user ≤ MAX_TASKS

pub record IsClusterState (cluster : ClusterState) : Type 0 where
  pub configured : IsKeptFunction cluster.configured
  pub users : All IsUserState cluster.users
  pub few : cluster_tasks cluster ≤ MAX_TASKS
