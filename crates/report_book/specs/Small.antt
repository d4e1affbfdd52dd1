-- What a small maker has taken in, and its tables.
use Rattle.std.specs.Prelude.{ℕ, ◌≡◌, ◌≤◌, ◌*◌, List, length}
use Rattle.std.specs.List.{sum_by}
use Rattle.bwe_specs.specs.declared.report.Target.{Target}
use Rattle.bwe_specs.specs.declared.report.Target.TheVariants.{Task, Link}
use Rattle.bwe_specs.specs.declared.report.Report.{Report}
use Rattle.report_book.specs.declared.small.SmallMaker.{SmallMaker}
use Rattle.report_book.specs.declared.small.SmallTable.{SmallTable}
use Rattle.bwe_specs.specs.declared.limits.TheConstants.{MAX_AMOUNT}

-- a demand, or 0 where the target is a link
abbrev pub demand_at : Target → ℕ → ℕ
demand_at (Task number) amount = amount
demand_at (Link number) amount = 0

abbrev pub demand_of : Report → ℕ
demand_of report = demand_at report.target report.amount

-- the sum of all demands that were reported
abbrev pub total_demand : List Report → ℕ
total_demand reports = sum_by demand_of reports

-- the maker has counted these reports and added up their demands
abbrev pub HasSummed : SmallMaker → List Report → Type 0
HasSummed maker reports = (length reports ≡ maker.prefix) × (total_demand reports ≡ maker.total)
    × (maker.total ≤ MAX_AMOUNT * maker.prefix)

-- the table of so many tasks that belongs to these reports
abbrev pub small_table : ℕ → List Report → SmallTable
small_table tasks reports =
    record { prefix = length reports; total = total_demand reports; tasks = tasks }
