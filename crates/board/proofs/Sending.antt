-- What a reporter's pass counts after a piece more.
use Rattle.std.proofs.Common.{◌≡◌, ℕ, ◌+◌, ◌≤◌, List, ◌++◌, length, ap, sym, ◌∙◌, arith, length-append}
use Rattle.std.specs.List.{All}
use Rattle.bwe_specs.specs.declared.report.Report.{Report}
use Rattle.bwe_specs.specs.declared.limits.TheConstants.{MAX_REPORTS}
use Rattle.board_log.specs.declared.roll.PlacedReport.{PlacedReport}
use Rattle.board_log.specs.Roll.{IsBy, placed, own_of}
use Rattle.board_log.proofs.Placing.{length-placed, length-placed-le}

pub sent_after : (number : ℕ) (own : List PlacedReport) (log piece whole : List Report) (new : List PlacedReport)
    → new ≡ own ++ placed number (length log) piece → new ≡ own_of number whole → All (IsBy number) piece → length whole ≤ MAX_REPORTS
    → (length own + length piece ≡ length new) × (length new ≤ MAX_REPORTS)
sent_after number own log piece whole new grown exact by few =
    let sum : length own + length piece ≡ length (own ++ placed number (length log) piece) = omega (arith, length-append own (placed number (length log) piece), length-placed number (length log) piece by) in
    let within : length (own_of number whole) ≤ length whole = length-placed-le number 0 whole in
    (sum ∙ sym (ap length grown), omega (arith, ap length exact))
