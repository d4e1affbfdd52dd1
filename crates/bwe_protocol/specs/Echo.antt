-- Tables in which each task may send what it last asked for.
use Rattle.std.specs.Prelude.{ℕ, ◌≡◌, List, [], length, map}
use Rattle.bwe_specs.specs.declared.report.Report.{Report}
use Rattle.bwe_specs.specs.Reports.{demand_after, numbers}
use Rattle.report_book.specs.Book.{Book}

pub record Echo : Type 0 where
  pub prefix : ℕ
  pub tasks : ℕ
  pub limits : List ℕ

-- the table of so many tasks that belongs to these reports
abbrev pub echo_of : ℕ → List Report → Echo
echo_of tasks reports =
    record {
      prefix = length reports;
      tasks = tasks;
      limits = map (demand_after reports) (numbers tasks);
    }

-- a book of so many tasks, without links, that holds these reports
abbrev pub Holds : ℕ → Book → List Report → Type 0
Holds tasks book reports = book ≡ record { tasks = tasks; capacities = []; reports = reports }
