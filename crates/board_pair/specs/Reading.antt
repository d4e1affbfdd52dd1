-- What contracts see of a reader's pass.
use Rattle.std.specs.Prelude.{ℕ, ◌≡◌, ◌+◌, List, [], Option, Some, None}
use Rattle.bwe_specs.specs.declared.report.Report.{Report}
use Rattle.board_pair.specs.declared.visits.Visits.{Visits}

-- the log that it has seen, the table of its first reports, how often it has read, how many of
-- these reads showed all that was posted, how often it was told, and the visits of its seat
pub record Reading (T : Type 0) : Type 0 where
  pub log : List Report
  pub table : T
  pub reads : ℕ
  pub fresh : ℕ
  pub learnt : ℕ
  pub visits : Visits

abbrev pub no_visits : Visits
no_visits = record { count = 0; covers = 0 }

-- a seat entered once more, and the table that was then published covers so many reports
abbrev pub HasVisited : ℕ → Visits → Visits → Type 0
HasVisited covers before after = (after.count ≡ before.count + 1) × (after.covers ≡ covers)

-- the visits of a seat, if there is one
abbrev pub visits_in : {S : Type 0} → (S → Visits) → Option S → Visits
visits_in visits (Some seat) = visits seat
visits_in visits None = no_visits

-- it has seen the empty log and has its table, and has read nothing and was told nothing
pub record IsNewReader {T : Type 0} (covers : T → ℕ) (belongs : List Report → T → Type 0)
    (pass : Reading T) : Type 0 where
  pub log : pass.log ≡ []
  pub floor : covers pass.table ≡ 0
  pub table : belongs [] pass.table
  pub reads : pass.reads ≡ 0
  pub fresh : pass.fresh ≡ 0
  pub learnt : pass.learnt ≡ 0
  pub visits : pass.visits ≡ no_visits
