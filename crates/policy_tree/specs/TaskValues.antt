-- What the tasks of a tree may have at each share.
use Rattle.std.specs.Prelude.{◌≡◌, ℕ, ◌<◌, List, map, flat_map, slice_index_or}
use Rattle.bwe_specs.specs.Tree.{User, Cluster, task_value, task_values}
use Rattle.tree_spec.specs.Tasks.{task_at}
use Rattle.policy_tree.specs.States.{JobState, job_tasks}
use Rattle.policy_tree.specs.Trees.{Tree, demand_in}

-- what each task may have at a share, in the order of their numbers
abbrev pub user_task_values : (ℕ → ℕ) → User → List (ℕ → ℕ)
user_task_values demand user = flat_map (task_values demand) user.jobs

abbrev pub cluster_task_values : (ℕ → ℕ) → Cluster → List (ℕ → ℕ)
cluster_task_values demand cluster = flat_map (user_task_values demand) cluster.users

-- what a task of the tree may have at a share
abbrev pub task_value_in : Tree → ℕ → ℕ → ℕ
task_value_in tree task share =
    slice_index_or (flat_map (cluster_task_values (demand_in tree)) tree.clusters) task (λ share. 0)
    share

-- what each task of a job may have at a share, as the code has them
abbrev pub job_task_values : JobState → List (ℕ → ℕ)
job_task_values job =
    map (λ task. task_value job.sum.function.points task.weight task.demand) job.sum.tasks

-- what a task of a job may have
abbrev pub value_at : JobState → ℕ → ℕ → ℕ
value_at job task share =
    task_value job.sum.function.points (task_at job.sum.tasks task).weight
    (task_at job.sum.tasks task).demand share

-- the job has the task at this place: what it asks for there and what it may have is the tree's
pub record IsJobOf (tree : Tree) (task : ℕ) (job : JobState) (place : ℕ) : Type 0 where
  pub within : place < job_tasks job
  pub demand : (task_at job.sum.tasks place).demand ≡ demand_in tree task
  pub value : (share : ℕ) → value_at job place share ≡ task_value_in tree task share
