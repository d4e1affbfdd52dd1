-- What the ranges of a document say of its weights, amounts and shares.
use Rattle.std.specs.Prelude.{◌≤◌, All}
use Rattle.bwe_specs.specs.declared.limits.TheConstants.{MAX_AMOUNT, MAX_SHARE, MAX_WEIGHT}
use Rattle.raw_document.specs.Raw.{Task, Job, User, Group, Report, Closing, Raw}

abbrev pub HasTaskWeight : Task → Type 0
HasTaskWeight task = (1 ≤ task.weight) × (task.weight ≤ MAX_WEIGHT)

abbrev pub HasJobWeights : Job → Type 0
HasJobWeights job = All HasTaskWeight job.tasks

abbrev pub HasUserWeights : User → Type 0
HasUserWeights user = All HasJobWeights user.jobs

abbrev pub HasGroupWeights : Group → Type 0
HasGroupWeights group = All HasUserWeights group.users

pub record IsInRange (raw : Raw) : Type 0 where
  pub some_top : 1 ≤ raw.top
  pub top : raw.top ≤ MAX_SHARE
  pub weights : All HasGroupWeights raw.groups
  pub amounts : All (λ (report : Report). report.amount ≤ MAX_AMOUNT) raw.script
  pub shares : All (λ (closing : Closing). closing.share ≤ MAX_SHARE) raw.closings
