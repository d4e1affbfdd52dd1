use Rattle.std.proofs.Common.{map}
use Rattle.raw_document.specs.declared.key.DocKey.TheVariants as keys
use Rattle.raw_document.specs.declared.doc_path.PathStep.TheVariants.{Key}
use Rattle.raw_document.specs.Reading.{each}
use Rattle.raw_document.specs.Raw.{closing_view}
use Rattle.doc_passes.specs.Numbers.{closing_numbers}
use Rattle.raw_document.proofs.Lists.{under_gives, gives_itself}
use Rattle.doc_passes.proofs.numbers.closings_numbers.Goals as goal

pub returns : goal.returns
returns c =
    let numbers = each (closing_numbers c.args.links.now) 0 (map closing_view c.args.closings.now) in
    under_gives (λ found. found.items) (Key keys.Closings) numbers c.each_numbers.result c.under.result (gives_itself c.each_numbers.result numbers c.each_numbers.ensures) c.under.ensures
