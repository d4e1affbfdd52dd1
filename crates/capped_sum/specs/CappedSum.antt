-- What is true of a capped sum, whose tasks contracts see.
use Rattle.std.specs.Prelude.{◌≡◌, ℕ, ◌+◌, List, length, Bool, true}
use Rattle.tree_spec.specs.declared.task.Task.{Task}
use Rattle.tree_spec.specs.Tasks.{AreInRange}
use Rattle.capped_sum.specs.declared.index.RankedTask.{RankedTask}
use Rattle.capped_sum.specs.declared.index.SumsBefore.{SumsBefore}
use Rattle.capped_sum.specs.Index.{IsIndexOf, AreSumsWhenFull}

-- the tasks are in range, and the index is theirs unless it is stale
pub record IsCappedSum (tasks : List Task) (ranked : List RankedTask) (before : List SumsBefore)
    (full : List ℕ) (is_fresh : Bool) : Type 0 where
  pub in_range : AreInRange tasks
  pub ranks : length ranked ≡ length tasks
  pub sums : length before ≡ length tasks + 1
  pub full_sums : length full ≡ length tasks
  pub index : is_fresh ≡ true → IsIndexOf tasks ranked before
  pub when_full : is_fresh ≡ true → AreSumsWhenFull tasks ranked full
