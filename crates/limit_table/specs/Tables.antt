-- What is known of every table.
use Rattle.std.specs.Prelude.{ℕ, ◌<◌, ◌≤◌, ◌^◌, length, sum_by}
use Rattle.bwe_specs.specs.declared.limits.TheConstants.{MAX_TOTAL}
use Rattle.bwe_specs.specs.Allocation.{Table}

-- what all groups get together
abbrev pub total_of : Table → ℕ
total_of table = sum_by (λ line. line.amount) table.groups

-- the total is bounded, and each number of a task, group or link fits 32 bits
pub record IsTable (table : Table) : Type 0 where
  pub total : total_of table ≤ MAX_TOTAL
  pub tasks : length table.limits < 2 ^ 32
  pub groups : length table.groups < 2 ^ 32
  pub links : length table.loads < 2 ^ 32
