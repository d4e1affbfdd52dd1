-- What contracts see of the allocator's pass.
use Rattle.std.specs.Prelude.{ℕ, List}
use Rattle.bwe_specs.specs.declared.report.Report.{Report}

-- the log that it has seen posted, and how many rounds it has made
pub record Allocating : Type 0 where
  pub posted : List Report
  pub rounds : ℕ
