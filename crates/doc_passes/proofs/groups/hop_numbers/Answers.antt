use Rattle.std.proofs.Common.{map}
use Rattle.raw_document.specs.declared.key.DocKey.TheVariants as keys
use Rattle.raw_document.specs.declared.doc_path.PathStep.TheVariants.{Key}
use Rattle.raw_document.specs.Reading.{each}
use Rattle.raw_document.specs.Raw.{name_view}
use Rattle.doc_passes.specs.Names.{number_in}
use Rattle.raw_document.proofs.Lists.{under_gives, gives_itself}
use Rattle.doc_passes.proofs.groups.hop_numbers.Goals as goal

pub returns : goal.returns
returns c =
    let numbers = each (number_in c.args.links.now) 0 (map name_view c.args.names.now) in
    under_gives (λ found. found.items) (Key keys.Links) numbers c.each_numbers.result c.under.result (gives_itself c.each_numbers.result numbers c.each_numbers.ensures) c.under.ensures
