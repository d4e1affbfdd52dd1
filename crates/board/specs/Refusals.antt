-- When a piece of reports is refused.
use Rattle.std.specs.Prelude.{ℕ, ◌≡◌, ◌+◌, ◌<◌, List, length}
use Rattle.bwe_specs.specs.declared.report.Report.{Report}
use Rattle.bwe_specs.specs.declared.limits.TheConstants.{MAX_REPORTS}
use Rattle.board.specs.declared.refusal.ReportError.{ReportError}
use Rattle.board.specs.declared.refusal.ReportError.TheVariants.{Full, OutOfMemory}

-- full where the log that was then seen holds so many reports, and these with the piece are more
-- than a log may have; else memory ran out
abbrev pub IsRefusalAt : List Report → ℕ → ReportError → Type 0
IsRefusalAt seen piece (Full held) = (held ≡ length seen) × (MAX_REPORTS < held + piece)
IsRefusalAt seen piece OutOfMemory = Unit {0}
