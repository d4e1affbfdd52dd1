use Rattle.std.proofs.Common.{◌≡◌, ◌++◌, map}
use Rattle.bwe_specs.specs.Reports.{numbers}
use Rattle.doc_maker.specs.Layout.{report_value}
use Rattle.doc_maker.specs.Made.{made_report}
use Rattle.doc_maker.specs.Writing.{each_tokens}
use Rattle.doc_maker.proofs.document.write_script.Given as goal

abbrev pub invariant-loop-task : goal.invariant-loop-task
invariant-loop-task l = (l.out.tokens ≡ l.initial.out.tokens ++ each_tokens report_value (map (made_report l.size) (numbers l.task))) × (l.out.before ≡ l.initial.out.before)
