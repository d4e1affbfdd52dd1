use Rattle.std.proofs.Common.{◌≡◌, ◌++◌, [], take, drop}
use Rattle.sample_lines.specs.Estimators.{AreBehind}
use Rattle.sample_lines.specs.SampleReports.{reports_behind}
use Rattle.sample_lines.proofs.reports.estimate_samples.Given as goal

abbrev pub invariant-loop-sample : goal.invariant-loop-sample
invariant-loop-sample l = record {
  behind : AreBehind l.window l.headroom (take l.sample-index l.samples) l.estimators;
  reports : l.reports.items ++ reports_behind l.window l.headroom (take l.sample-index l.samples) (drop l.sample-index l.samples) ≡ reports_behind l.window l.headroom [] l.samples;
}
