-- What the log lock holds.
use Rattle.std.specs.Prelude.{ℕ, ◌≡◌, ◌≤◌, List, length}
use Rattle.std.specs.List.{All}
use Rattle.bwe_specs.specs.declared.report.Report.{Report}
use Rattle.bwe_specs.specs.declared.limits.TheConstants.{MAX_REPORTS}
use Rattle.board_log.specs.Roll.{Rolled}
use Rattle.board_pair.specs.declared.pair.Posting.{Posting}
use Rattle.board_pair.specs.Desk.{Desk, last_of}
use Rattle.bwe_specs.specs.Fit.{IsFit}
use Rattle.board_core.specs.Core.{IsAllowed}

-- what contracts see of the locked state: the log, how many reports the posted table covers, and
-- how many the table that a refused publish left waiting covers, or the posted one where none waits
pub record Standing : Type 0 where
  pub log : List Report
  pub posted : ℕ
  pub pending : ℕ

-- the locked value ties the bases: the log, its history and its roll are one, and what is posted is
-- a beginning of it
pub record IsStanding {T : Type 0} (covers : T → ℕ) (reporters tasks links : ℕ)
    (log whole : List Report) (roll : Rolled) (desk : Desk (Posting T) (Posting T))
    (pending : ℕ) : Type 0 where
  pub whole_so : whole ≡ log
  pub rolled : roll ≡ record { log = log; members = reporters }
  pub room : length log ≤ MAX_REPORTS
  pub allowed : All (IsAllowed reporters (IsFit tasks links)) log
  pub last_covers : covers (last_of desk).table ≡ pending
  pub posted_first : covers desk.shown.table ≤ pending
  pub pending_within : pending ≤ length log

-- a number was not lowered, and not raised above `most`
abbrev pub IsRaised : ℕ → ℕ → ℕ → Type 0
IsRaised old new most = (old ≤ new) × (new ≤ most)
