-- When a text is that of a closed legal run.
use Rattle.std.specs.Prelude.{◌≡◌, ◌≢◌, ℕ, ◌<◌, ◌≤◌, ◌^◌, List, [], Vec, length, slice_index_or}
use Rattle.std.specs.List.{All}
use Rattle.std.specs.declared.alloc.Global.{Global}
use Rattle.bwe_specs.specs.declared.limits.TheConstants.{MAX_READERS, MAX_READS, MAX_REPORTERS, MAX_REPORTS}
use Rattle.bwe_specs.specs.declared.report.Report.{Report}
use Rattle.bwe_specs.specs.Allocation.{Table}
use Rattle.bwe_specs.specs.Reports.{reports_of}
use Rattle.bwe_specs.specs.Fit.{IsFit}
use Rattle.limit_table.specs.Tables.{total_of as table_total}
use Rattle.crew_log.specs.declared.log.CrewLog.{CrewLog}
use Rattle.crew_log.specs.LegalCrewLog.{IsClosed, IsLegalCrewLog}
use Rattle.run_text.specs.RunText.{run_text_of}
use Rattle.doc_names.specs.NameTexts.{IsPlain, NameTexts}
use Rattle.bwe_specs.specs.Lists.{lists_of}
use Rattle.run_audit.specs.History.{total_of}

-- ---- what is asked of names and scripts

-- no name has a line feed or a space, and no two reporters have one name
pub record AreNames (names : NameTexts) : Type 0 where
  pub tasks : All IsPlain names.tasks
  pub links : All IsPlain names.links
  pub reporters : All IsPlain names.reporters
  pub apart : (number other : ℕ) → number < other → other < length names.reporters
      → slice_index_or names.reporters number [] ≢ slice_index_or names.reporters other []

-- each task, link and reporter has a name, each script has reports of its own reporter that fit,
-- and there are few enough of both
pub record AreScripts (names : NameTexts) (tasks links : ℕ) (scripts : List (List Report))
    : Type 0 where
  pub tasks_named : tasks ≤ length names.tasks
  pub links_named : links ≤ length names.links
  pub reporters_named : length scripts ≤ length names.reporters
  pub own : (number : ℕ) → number < length scripts
      → All (λ report. (report.reporter ≡ number) × IsFit tasks links report)
      (slice_index_or scripts number [])
  pub few_reporters : length scripts ≤ MAX_REPORTERS
  pub few : total_of scripts ≤ MAX_REPORTS

-- the history has each script once and in its order, and no other report
pub record IsInterleaving (tasks links : ℕ) (scripts : List (List Report)) (history : List Report)
    : Type 0 where
  pub each : (number : ℕ) → number < length scripts
      → reports_of number history ≡ slice_index_or scripts number []
  pub no_other : All (λ report. (report.reporter < length scripts) × IsFit tasks links report)
      history

-- ---- closed legal runs

-- the text is that of a closed legal crew log, of 1 to 64 readers that each made the same number of
-- reads, at most 1,000
pub record IsClosedRun (names : NameTexts) (table_of : List Report → Table) (tasks links : ℕ)
    (scripts : List (Vec Report Global)) (text : List ℕ) : Type 0 where
  pub log : CrewLog Table
  pub readers : ℕ
  pub reads : ℕ
  pub some_readers : 1 ≤ readers
  pub few_readers : readers ≤ MAX_READERS
  pub few_reads : reads ≤ MAX_READS
  pub legal : IsLegalCrewLog (λ reports table. table ≡ table_of reports) table_total tasks links
      scripts readers reads log
  pub closed : IsClosed log
  pub text_so : text ≡ run_text_of names log

-- names and scripts are as asked above, totals have 64 bits, and each history of the scripts has
-- this table
pub record AreAudited (names : NameTexts) (table_of : List Report → Table) (table : Table)
    (tasks links : ℕ) (scripts : List (Vec Report Global)) : Type 0 where
  pub names_so : AreNames names
  pub scripts_so : AreScripts names tasks links (lists_of scripts)
  pub totals : (reports : List Report) → All (IsFit tasks links) reports
      → table_total (table_of reports) < 2 ^ 64
  pub table_so : (history : List Report) → IsInterleaving tasks links (lists_of scripts) history
      → table_of history ≡ table
