-- The last report of each task and each link, by number.
use Rattle.std.specs.Prelude.{◌≡◌, ℕ, ◌++◌, List, Option, length, map, filter_map, All}
use Rattle.bwe_specs.specs.declared.report.Report.{Report}
use Rattle.bwe_specs.specs.Reports.{numbers, is_task, is_link}
use Rattle.bwe_specs.specs.Allocation.{Plan, allocation}
use Rattle.bwe_specs.specs.Fit.{IsInRange}
use Rattle.last_reports.specs.Compaction.{last_report}

-- of each task and each link its last report, where it has one
pub record Told : Type 0 where
  pub tasks : List (Option Report)
  pub links : List (Option Report)

-- of so many tasks and links, after these reports
abbrev pub told_after : ℕ → ℕ → List Report → Told
told_after tasks links reports = record {
  tasks = map (λ task. last_report (is_task task) reports) (numbers tasks);
  links = map (λ link. last_report (is_link link) reports) (numbers links);
}

-- the last reports of so many tasks, and then those of so many links, each by number
unfoldable pub snapshot : ℕ → ℕ → List Report → List Report
snapshot tasks links reports =
    filter_map (λ task. last_report (is_task task) reports) (numbers tasks)
    ++ filter_map (λ link. last_report (is_link link) reports) (numbers links)

-- Snapshot law: the allocation of reports of so many tasks and links is that of their snapshot, but
-- for the count of reports
abbrev pub SnapshotLaw : Type 0
SnapshotLaw = (plan : Plan) (tasks links : ℕ) (reports : List Report)
    → All (λ report. IsInRange tasks links report.target) reports
    → record (allocation plan (snapshot tasks links reports)) { prefix = length reports }
    ≡ allocation plan reports
