use Rattle.raw_document.specs.Raw.{raw_view}
use Rattle.doc_names.specs.NameTexts.{texts_of}
use Rattle.doc_passes.specs.NumbersView.{numbers_view}
use Rattle.doc_parts.specs.Tables.{tables_view}
use Rattle.doc_parts.proofs.PassFacts.{passed_of, numbered_left}
use Rattle.document_reader.proofs.gathered.names_in_tables_on_threads.Goals as goal

pub returns-in-Ok-names : goal.returns-in-Ok-names
returns-in-Ok-names g c range =
    let raw = raw_view c.args.raw.now in
    let lists = tables_view c.args.tables.now in
    let names = texts_of c.in-Ok-names.names in
    let found = numbers_view c.in-Ok.numbers in
    let known = rw c.in-Ok.is at c.numbers_beside_names-numbers.ensures.numbers in
    let copied = rw c.in-Ok-names.is at c.numbers_beside_names-numbers.ensures.names in
    record {
      passed = passed_of raw lists names found tt c.requires.few range c.requires.names copied known;
      left = numbered_left raw lists names found copied known;
    }
