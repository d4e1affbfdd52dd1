-- When a reporter's script was cut short.
use Rattle.std.specs.Prelude.{◌<◌, ◌≤◌, List, length}
use Rattle.bwe_specs.specs.declared.report.Report.{Report}
use Rattle.bwe_specs.specs.declared.limits.TheConstants.{MAX_REPORTS}
use Rattle.board.specs.Reporting.{Reporting}
use Rattle.board.specs.declared.refusal.ReportError.{ReportError}
use Rattle.board.specs.declared.refusal.ReportError.TheVariants.{Full, OutOfMemory}

-- full where the pass has seen a full log and has not sent its whole script; else memory ran out
abbrev pub IsCutShort : List Report → Reporting → ReportError → Type 0
IsCutShort script pass (Full held) = (MAX_REPORTS ≤ length pass.seen)
    × (length pass.own < length script)
IsCutShort script pass OutOfMemory = Unit {0}
