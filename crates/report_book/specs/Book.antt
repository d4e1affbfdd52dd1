-- What contracts see of a book, and when it refuses a report.
use Rattle.std.specs.Prelude.{ℕ, ◌≡◌, ◌<◌, ◌≤◌, ◌++◌, ◌∷◌, [], List, length, slice_index, slice_index_or, slice_set}
use Rattle.bwe_specs.specs.declared.report.Target.{Target}
use Rattle.bwe_specs.specs.declared.report.Target.TheVariants.{Task, Link}
use Rattle.bwe_specs.specs.declared.report.Report.{Report}
use Rattle.bwe_specs.specs.Reports.{demand_after, capacity_after}
use Rattle.bwe_specs.specs.declared.limits.TheConstants.{MAX_REPORTS}
use Rattle.report_book.specs.declared.told.Told.{Told}
use Rattle.report_book.specs.declared.book.BookError.{BookError}
use Rattle.report_book.specs.declared.book.BookError.TheVariants.{Full, OutOfMemory}
use Rattle.report_book.specs.Told.{Tells}

-- how many tasks there are, each link's capacity before any report, and the reports
pub record Book : Type 0 where
  pub tasks : ℕ
  pub capacities : List ℕ
  pub reports : List Report

-- the book with one report more
abbrev pub with_report : Book → Report → Book
with_report book report = record book { reports = book.reports ++ report ∷ [] }

-- full where as many reports are held as a log may have, and nowhere else
abbrev pub IsRefusal : ℕ → BookError → Type 0
IsRefusal held (Full reports) = (reports ≡ held) × (held ≡ MAX_REPORTS)
IsRefusal held OutOfMemory = held < MAX_REPORTS

-- what a task or link was told, of a row for each
abbrev pub row_at : List (List Told) → ℕ → List Told
row_at rows number = slice_index_or rows number []

-- the rows of the tasks, and those of the links, with one entry more for the target
abbrev pub task_rows_after : Target → Told → List (List Told) → List (List Told)
task_rows_after (Task number) entry rows = slice_set rows number (row_at rows number ++ entry ∷ [])
task_rows_after (Link number) entry rows = rows

abbrev pub link_rows_after : Target → Told → List (List Told) → List (List Told)
link_rows_after (Task number) entry rows = rows
link_rows_after (Link number) entry rows = slice_set rows number (row_at rows number ++ entry ∷ [])

-- the rows tell each demand and each capacity
pub record AreKept (book : Book) (tasks links : List (List Told)) : Type 0 where
  pub room : length book.reports ≤ MAX_REPORTS
  pub task_rows : length tasks ≡ book.tasks
  pub link_rows : length links ≡ length book.capacities
  pub demands : (task : ℕ) → task < book.tasks
      → Tells 0 (λ reports. demand_after reports task) book.reports (row_at tasks task)
  pub capacities : (link : ℕ) → link < length book.capacities
      → Tells (slice_index book.capacities link)
      (λ reports. capacity_after book.capacities reports link) book.reports (row_at links link)
