use Rattle.std.proofs.Common.{◌∙◌}
use Rattle.sample_lines.specs.SampleReports.{amounts_of}
use Rattle.sample_lines.proofs.EstimatorFacts.{behind_more}
use Rattle.sample_lines.proofs.reports.report.Goals as goal

pub returns-clause-behind : goal.returns-clause-behind
returns-clause-behind c = λ before behind.
    let sample = c.args.sample in
    let amounts = amounts_of sample.task before in
    let found = c.in_ok-estimator.ensures.behind amounts (behind sample.task) in
    behind_more c.args.window c.args.headroom before sample c.args.estimators.now c.taken.new.estimators c.insert.new.self c.sample-amount.new.self
    behind c.in_ok-estimator.ensures.others c.in_ok-insert.ensures.updates
    (record {
      window_kept = c.sample-amount.ensures.window ∙ found.window_kept;
      headroom_kept = c.sample-amount.ensures.headroom ∙ found.headroom_kept;
      had = c.sample-amount.ensures.had amounts found.had;
    })
