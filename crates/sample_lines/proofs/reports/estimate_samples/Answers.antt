use Rattle.std.proofs.Common.{◌≡◌, ◌+◌, get_or, List, arith, ◌∙◌, ap, subst, take, ◌++◌, drop}
use Rattle.std.proofs.lemmas.List.{get_or_default}
use Rattle.bwe_specs.specs.declared.report.Report.{Report}
use Rattle.sample_lines.specs.declared.sample.Sample.{Sample}
use Rattle.sample_lines.specs.Estimators.{AreBehind}
use Rattle.sample_lines.specs.SampleReports.{reports_behind}
use Rattle.sample_lines.proofs.EstimatorFacts.{one_report_more, all_reports, taken_more}
use Rattle.sample_lines.proofs.reports.estimate_samples.Goals as goal

pub loop-sample-preserved : goal.loop-sample-preserved
loop-sample-preserved c =
    let window = c.args.window in
    let headroom = c.args.headroom in
    let samples = c.args.samples.now in
    let i = c.loop-sample.sample-index in
    let sample : Sample = get_or samples i (record { reporter = 0; task = 0; amount = 0 }) in
    let is : sample ≡ get_or samples i sample = get_or_default samples i (record { reporter = 0; task = 0; amount = 0 }) sample (omega arith) in
    record {
      behind = subst (λ (some : List Sample). AreBehind window headroom some c.report.new.estimators) (taken_more samples i sample (omega arith) is)
          (c.in_ok-report.ensures.behind (take i samples) c.loop-sample.invariant.behind);
      reports = ap (λ (items : List Report). items ++ reports_behind window headroom (take (i + 1) samples) (drop (i + 1) samples)) c.in_ok-push.ensures.items
          ∙ one_report_more window headroom samples i sample c.loop-sample.reports.items c.in_ok-report.report _ (omega arith) is
          (c.in_ok-report.ensures.report (take i samples) c.loop-sample.invariant.behind) c.loop-sample.invariant.reports;
    }

pub returns : goal.returns
returns c = all_reports c.args.window c.args.headroom c.args.samples.now c.loop-sample.sample-index c.loop-sample.reports.items _ (omega arith) c.loop-sample.invariant.reports
