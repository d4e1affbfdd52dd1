-- The index of the tasks of a sum. `per_weight` is the value of the tasks' function.
use Rattle.std.specs.Prelude.{◌≡◌, ℕ, ◌+◌, ◌*◌, ◌<◌, ◌≤◌, List, length, map, min, sum_by, take, slice_index_or, IsPermutation}
use Rattle.std.specs.Int.{div_ceil}
use Rattle.std.specs.List.Sorted.{IsNonDecreasingBy}
use Rattle.bwe_specs.specs.declared.limits.TheConstants.{MAX_TASKS, MAX_TOTAL, MAX_WEIGHT}
use Rattle.tree_spec.specs.declared.task.Task.{Task}
use Rattle.capped_sum.specs.declared.index.RankedTask.{RankedTask}
use Rattle.capped_sum.specs.declared.index.SumsBefore.{SumsBefore}

-- a task's value where its function has so much
abbrev pub capped : ℕ → Task → ℕ
capped per_weight task = min (task.weight * per_weight) task.demand

-- a task with the least amount per weight at which it has its whole demand
abbrev pub ranked_of : Task → RankedTask
ranked_of task =
    record {
      full_at = div_ceil task.demand task.weight;
      weight = task.weight;
      demand = task.demand;
    }

-- the sums over all tasks fit
pub record SumsFit (ranked : List RankedTask) : Type 0 where
  pub weights : sum_by (λ task. task.weight) ranked ≤ MAX_TASKS * MAX_WEIGHT
  pub demands : sum_by (λ task. task.demand) ranked ≤ MAX_TOTAL

-- the tasks in the order of those amounts
pub record AreRanked (tasks : List Task) (ranked : List RankedTask) : Type 0 where
  pub moved : IsPermutation (map ranked_of tasks) ranked
  pub order : IsNonDecreasingBy (λ task. task.full_at) ranked

-- at each place, and at the end, the sums over those before
pub record AreSummed (ranked : List RankedTask) (before : List SumsBefore) : Type 0 where
  pub size : length before ≡ length ranked + 1
  pub weights : (place : ℕ) (d : SumsBefore) → place ≤ length ranked
      → (slice_index_or before place d).weights ≡ sum_by (λ task. task.weight) (take place ranked)
  pub demands : (place : ℕ) (d : SumsBefore) → place ≤ length ranked
      → (slice_index_or before place d).demands ≡ sum_by (λ task. task.demand) (take place ranked)

-- the index is that of these tasks
pub record IsIndexOf (tasks : List Task) (ranked : List RankedTask) (before : List SumsBefore)
    : Type 0 where
  pub ranks : AreRanked tasks ranked
  pub sums : AreSummed ranked before

-- the sum at the amount per weight at which the task of each place is full
pub record AreSumsWhenFull (tasks : List Task) (ranked : List RankedTask) (when_full : List ℕ)
    : Type 0 where
  pub size : length when_full ≡ length ranked
  pub sums : (place : ℕ) (d : ℕ) (e : RankedTask) → place < length ranked
      → slice_index_or when_full place d
      ≡ sum_by (capped (slice_index_or ranked place e).full_at) tasks

-- the greatest amount per weight at which the sum is at most an amount
pub record IsMost (tasks : List Task) (amount most : ℕ) : Type 0 where
  pub fits : sum_by (capped most) tasks ≤ amount
  pub over : amount < sum_by (capped (most + 1)) tasks
