-- The state after reports and posts.
use Rattle.std.specs.Prelude.{◌≡◌, ℕ, List, length, All}
use Rattle.bwe_specs.specs.declared.report.Report.{Report}
use Rattle.bwe_specs.specs.Allocation.{Plan, Table, allocation}
use Rattle.bwe_specs.specs.Fit.{IsFit}
use Rattle.last_reports.specs.Snapshot.{Told, told_after}
use Rattle.allocator.specs.Allocators.{Allocating, plan_in}
use Rattle.allocator.specs.Frames.{task_count}
use Rattle.plain_table.specs.Reported.{IsAfter}

-- the demands and capacities after all reports, the last report of each task and link, and the
-- table that was written last
pub record Live : Type 0 where
  pub allocating : Allocating
  pub told : Told
  pub table : Table

abbrev pub plan_of : Live → Plan
plan_of live = plan_in live.allocating

-- how many tasks and links there are, and how many reports were taken in
abbrev pub tasks_of : Live → ℕ
tasks_of live = task_count (plan_of live)

abbrev pub links_of : Live → ℕ
links_of live = length (plan_of live).capacities

abbrev pub reports_of : Live → ℕ
reports_of live = live.allocating.reported.prefix

-- these reports were taken in, and the table that was written last is that of those
pub record IsLive (live : Live) (accepted written : List Report) : Type 0 where
  pub absorbed : IsAfter live.allocating.reported accepted
  pub fit : All (IsFit (tasks_of live) (links_of live)) accepted
  pub told : live.told ≡ told_after (tasks_of live) (links_of live) accepted
  pub table : live.table ≡ allocation (plan_of live) written

-- some reports were taken in and written
abbrev pub IsSomeLive : Live → Type 0
IsSomeLive live = (accepted : List Report) × (written : List Report) × IsLive live accepted written
