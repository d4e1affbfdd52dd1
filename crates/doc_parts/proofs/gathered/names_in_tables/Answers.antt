use Rattle.raw_document.specs.Raw.{raw_view}
use Rattle.doc_names.specs.NameTexts.{texts_of}
use Rattle.doc_passes.specs.NumbersView.{numbers_view}
use Rattle.doc_parts.specs.Tables.{tables_view}
use Rattle.doc_parts.proofs.PassFacts.{passed_of, numbered_left}
use Rattle.doc_parts.proofs.gathered.names_in_tables.Goals as goal

pub returns-in-Ok-names_of : goal.returns-in-Ok-names_of
returns-in-Ok-names_of c =
    let raw = raw_view c.args.raw.now in
    let lists = tables_view c.args.tables.now in
    let names = texts_of c.in-Ok-names_of.names in
    let found = numbers_view c.in-Ok.numbers in
    record {
      passed = passed_of raw lists names found tt c.requires.few c.requires.range c.requires.names c.in-Ok-names_of.ensures c.in-Ok.ensures;
      left = numbered_left raw lists names found c.in-Ok-names_of.ensures c.in-Ok.ensures;
    }
