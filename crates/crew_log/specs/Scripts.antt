-- The scripts of a run, one for each reporter.
use Rattle.std.specs.Prelude.{◌≡◌, ℕ, ◌<◌, List, Vec, length, slice_index_or}
use Rattle.std.specs.List.{All, sum_by}
use Rattle.std.specs.declared.alloc.Global.{Global}
use Rattle.bwe_specs.specs.declared.report.Report.{Report}
use Rattle.bwe_specs.specs.Fit.{IsFit}

-- the script at each place has reports of that number alone, of so many tasks and links
abbrev pub AreOfReporters : ℕ → ℕ → List (Vec Report Global) → Type 0
AreOfReporters tasks links scripts = (number : ℕ) (script : Vec Report Global)
    → number < length scripts
    → All (λ report. report.reporter ≡ number) (slice_index_or scripts number script).items
    × All (IsFit tasks links) (slice_index_or scripts number script).items

-- how many reports the scripts have together
abbrev pub reports_in : List (Vec Report Global) → ℕ
reports_in scripts = sum_by (λ script. length script.items) scripts
