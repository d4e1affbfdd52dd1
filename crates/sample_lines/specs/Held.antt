-- What holds of every sample of a part, and of the reports of their estimates.
use Rattle.std.specs.Prelude.{◌≡◌, ℕ, ◌<◌, ◌≤◌, List, length, slice_get, Option, Some, None}
use Rattle.bwe_specs.specs.declared.limits.TheConstants.{MAX_AMOUNT}
use Rattle.bwe_specs.specs.declared.report.Report.{Report}
use Rattle.bwe_specs.specs.declared.report.Target.{Target}
use Rattle.bwe_specs.specs.declared.report.Target.TheVariants.{Task, Link}
use Rattle.sample_lines.specs.declared.sample.Sample.{Sample}
use Rattle.sample_lines.specs.Known.{Known}

-- it is of a task that there is, by the task's owner, and its amount is not above the greatest
pub record IsHeld (known : Known) (sample : Sample) : Type 0 where
  pub task : sample.task < length known.names.tasks
  pub reporter : sample.reporter < length known.names.reporters
  pub owner : slice_get known.task_owners sample.task ≡ Some sample.reporter
  pub amount : sample.amount ≤ MAX_AMOUNT

abbrev pub owner_in : List ℕ → Target → Option ℕ
owner_in task_owners (Task number) = slice_get task_owners number
owner_in task_owners (Link number) = None

-- the report is of a task, and its reporter owns the task
abbrev pub IsByOwner : List ℕ → Report → Type 0
IsByOwner task_owners report = owner_in task_owners report.target ≡ Some report.reporter
