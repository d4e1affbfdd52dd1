use Rattle.std.proofs.Common.{◌≡◌, ◌++◌, map}
use Rattle.serde_json.specs.Data.{string}
use Rattle.bwe_specs.specs.Reports.{numbers}
use Rattle.doc_maker.specs.Made.{reporter_name}
use Rattle.doc_maker.specs.Writing.{each_tokens}
use Rattle.doc_maker.proofs.document.write_reporters.Given as goal

abbrev pub invariant-loop-reporter : goal.invariant-loop-reporter
invariant-loop-reporter l = (l.out.tokens ≡ l.initial.out.tokens ++ each_tokens string (map reporter_name (numbers l.reporter))) × (l.out.before ≡ l.initial.out.before)
