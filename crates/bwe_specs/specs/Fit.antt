-- Which reports may stand in a log.
use Rattle.std.specs.Prelude.{ℕ, ◌<◌, ◌≤◌}
use Rattle.bwe_specs.specs.declared.report.Target.{Target}
use Rattle.bwe_specs.specs.declared.report.Target.TheVariants.{Task, Link}
use Rattle.bwe_specs.specs.declared.report.Report.{Report}
use Rattle.bwe_specs.specs.declared.limits.TheConstants.{MAX_AMOUNT}

-- the target is one of so many tasks, or one of so many links
abbrev pub IsInRange : ℕ → ℕ → Target → Type 0
IsInRange tasks links (Task number) = number < tasks
IsInRange tasks links (Link number) = number < links

-- the report's target is in range, and its amount is not above the limit
abbrev pub IsFit : ℕ → ℕ → Report → Type 0
IsFit tasks links report = IsInRange tasks links report.target × (report.amount ≤ MAX_AMOUNT)
