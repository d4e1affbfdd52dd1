-- The tasks of a job: what is true of each, their values, and what changes one.
use Rattle.std.specs.Prelude.{ℕ, ◌≤◌, List, length, sum_by, All, slice_index_or, slice_set}
use Rattle.bwe_specs.specs.declared.limits.TheConstants.{MAX_AMOUNT, MAX_TASKS, MAX_WEIGHT}
use Rattle.bwe_specs.specs.Tree.{task_value}
use Rattle.bw_function.specs.BwFunction.{Function}
use Rattle.tree_spec.specs.declared.task.Task.{Task}

-- a task's weight and demand are in their ranges
pub record IsInRange (task : Task) : Type 0 where
  pub low : 1 ≤ task.weight
  pub weight : task.weight ≤ MAX_WEIGHT
  pub demand : task.demand ≤ MAX_AMOUNT

-- so are those of all tasks, and their number is
pub record AreInRange (tasks : List Task) : Type 0 where
  pub few : length tasks ≤ MAX_TASKS
  pub each : All IsInRange tasks

-- the tasks of one function
pub record Tasks : Type 0 where
  pub function : Function
  pub tasks : List Task

-- the sum of the tasks' values at a share
abbrev pub tasks_value : Tasks → ℕ → ℕ
tasks_value sum share =
    sum_by (λ task. task_value sum.function.points task.weight task.demand share) sum.tasks

-- a task by its number
abbrev pub task_at : List Task → ℕ → Task
task_at tasks number = slice_index_or tasks number (record { weight = 0; demand = 0 })

-- one demand changes
abbrev pub with_demand : Tasks → ℕ → ℕ → Tasks
with_demand sum number demand =
    record sum {
      tasks = slice_set sum.tasks number
          (record { weight = (task_at sum.tasks number).weight; demand = demand });
    }

-- a task of the weight, which asks for nothing
abbrev pub without_demand : ℕ → Task
without_demand weight = record { weight = weight; demand = 0 }
