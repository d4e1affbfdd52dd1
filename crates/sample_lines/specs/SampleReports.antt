-- The reports of the estimates of samples.
use Rattle.std.specs.Prelude.{ℕ, ◌==◌, List, [], ◌∷◌, ◌++◌, map, filter, Result, Ok, Err}
use Rattle.bwe_specs.specs.declared.report.Report.{Report}
use Rattle.bwe_specs.specs.declared.report.Target.TheVariants.{Task}
use Rattle.demand_estimate.specs.Estimate.{estimate}
use Rattle.text_scan.specs.Words.{Text}
use Rattle.sample_lines.specs.declared.sample.Sample.{Sample}
use Rattle.sample_lines.specs.Known.{Known}
use Rattle.sample_lines.specs.SampleLines.{samples_in}

-- the amounts of one task's samples, in order
abbrev pub amounts_of : ℕ → List Sample → List ℕ
amounts_of task samples =
    map (λ sample. sample.amount) (filter (λ sample. sample.task == task) samples)

-- the report of a sample behind others: of the estimate of its task's samples so far
abbrev pub report_of : ℕ → ℕ → List Sample → Sample → Report
report_of window headroom before sample = record {
  reporter = sample.reporter;
  target = Task sample.task;
  amount = estimate window headroom (amounts_of sample.task before ++ sample.amount ∷ []);
}

-- the reports of samples behind others, one for each
unfoldable pub reports_behind : ℕ → ℕ → List Sample → List Sample → List Report
reports_behind window headroom before [] = []
reports_behind window headroom before (sample ∷ samples) =
    report_of window headroom before sample
    ∷ reports_behind window headroom (before ++ sample ∷ []) samples

-- the reports of samples
abbrev pub reports_of : ℕ → ℕ → List Sample → List Report
reports_of window headroom samples = reports_behind window headroom [] samples

-- the reports of the samples that were read
abbrev pub reported : ℕ → ℕ → Result (List Sample) ℕ → Result (List Report) ℕ
reported window headroom (Ok samples) = Ok (reports_of window headroom samples)
reported window headroom (Err line) = Err line

-- the reports of a part, for so many of which there is room, or the number of the first line at
-- fault
abbrev pub reports_in : Known → ℕ → ℕ → ℕ → Text → Result (List Report) ℕ
reports_in known room window headroom part =
    reported window headroom (samples_in known room part)
