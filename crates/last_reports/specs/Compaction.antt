-- What of a list of reports counts: of each task and each link its last report.
use Rattle.std.specs.Prelude.{◌≡◌, ℕ, Bool, List, [], ◌∷◌, Option, find, reverse, length, is_some, if◌then◌else◌}
use Rattle.bwe_specs.specs.declared.report.Report.{Report}
use Rattle.bwe_specs.specs.declared.report.Target.{Target}
use Rattle.bwe_specs.specs.declared.report.Target.TheVariants.{Task, Link}
use Rattle.bwe_specs.specs.Reports.{is_task, is_link}
use Rattle.bwe_specs.specs.Allocation.{Plan, allocation}

-- the last report whose target passes the test
unfoldable pub last_report : (Target → Bool) → List Report → Option Report
last_report test reports = find (λ report. test report.target) (reverse reports)

-- the other target is the same task, or the same link
abbrev pub is_target : Target → Target → Bool
is_target (Task number) = is_task number
is_target (Link number) = is_link number

-- the last reports of each task and link, in their order: a report goes where a later one of its
-- task or link stands
unfoldable pub last_reports : List Report → List Report
last_reports [] = []
last_reports (report ∷ reports) =
    if is_some (last_report (is_target report.target) reports) then last_reports reports
    else report ∷ last_reports reports

-- the two lists have the same last report of each task and each link
pub record AreAlike (reports others : List Report) : Type 0 where
  pub tasks : (task : ℕ) → last_report (is_task task) reports ≡ last_report (is_task task) others
  pub links : (link : ℕ) → last_report (is_link link) reports ≡ last_report (is_link link) others

-- Compaction law: the allocation of a script is that of its last reports of each task and link, but
-- for the count of reports
abbrev pub CompactionLaw : Type 0
CompactionLaw = (plan : Plan) (reports : List Report)
    → record (allocation plan (last_reports reports)) { prefix = length reports }
    ≡ allocation plan reports
