use Rattle.std.proofs.Common.{map}
use Rattle.raw_document.specs.declared.key.DocKey.TheVariants as keys
use Rattle.raw_document.specs.declared.doc_path.PathStep.TheVariants.{Key}
use Rattle.raw_document.specs.Reading.{each}
use Rattle.raw_document.specs.Raw.{report_view}
use Rattle.doc_passes.specs.Numbers.{report_numbers}
use Rattle.raw_document.proofs.Lists.{under_gives}
use Rattle.doc_passes.proofs.script.script_numbers.Goals as goal

pub returns : goal.returns
returns c = under_gives (λ found. found.items) (Key keys.Script) (each (report_numbers c.args.links.now c.args.tasks.now c.args.reporters.now) 0 (map report_view c.args.script.now)) c.each_report_from.result c.under.result c.each_report_from.ensures c.under.ensures
