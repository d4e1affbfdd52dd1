use Rattle.std.proofs.Common.{map}
use Rattle.raw_document.specs.declared.key.DocKey.TheVariants as keys
use Rattle.raw_document.specs.declared.doc_path.PathStep.TheVariants.{Key}
use Rattle.raw_document.specs.Reading.{each}
use Rattle.raw_document.specs.Raw.{link_view}
use Rattle.doc_passes.specs.Numbers.{link_owner}
use Rattle.raw_document.proofs.Lists.{under_gives, gives_itself}
use Rattle.doc_passes.proofs.numbers.link_owners.Goals as goal

pub returns : goal.returns
returns c =
    let numbers = each (link_owner c.args.reporters.now) 0 (map link_view c.args.links.now) in
    under_gives (λ found. found.items) (Key keys.Links) numbers c.each_numbers.result c.under.result (gives_itself c.each_numbers.result numbers c.each_numbers.ensures) c.under.ensures
