use Rattle.std.proofs.Common.{◌≡◌, take}
use Rattle.bwe_specs.specs.Reports.{reports_of}
use Rattle.document_scripts.proofs.reports_by.Given as goal

abbrev pub invariant-loop-report : goal.invariant-loop-report
invariant-loop-report l = l.reports.items ≡ reports_of l.reporter (take l.report-index l.script)
