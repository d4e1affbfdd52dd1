-- The script of a document, split by reporter.
use Rattle.std.specs.Prelude.{ℕ, List, map}
use Rattle.bwe_specs.specs.declared.report.Report.{Report}
use Rattle.bwe_specs.specs.Reports.{numbers, reports_of}

-- those of each number, in the script's order
abbrev pub scripts_of : ℕ → List Report → List (List Report)
scripts_of reporters script = map (λ number. reports_of number script) (numbers reporters)
