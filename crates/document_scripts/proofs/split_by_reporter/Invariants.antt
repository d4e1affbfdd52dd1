use Rattle.std.proofs.Common.{◌≡◌, map}
use Rattle.bwe_specs.specs.Reports.{numbers, reports_of}
use Rattle.bwe_specs.specs.Lists.{lists_of}
use Rattle.document_scripts.proofs.split_by_reporter.Given as goal

abbrev pub invariant-loop-reporter : goal.invariant-loop-reporter
invariant-loop-reporter l = lists_of l.scripts.items ≡ map (λ number. reports_of number l.script) (numbers l.reporter)
