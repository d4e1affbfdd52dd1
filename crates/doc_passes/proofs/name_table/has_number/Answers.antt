use Rattle.std.proofs.Common.{Some, sym, ap, ◌∙◌}
use Rattle.std.specs.Prelude.{slice_get}
use Rattle.std.proofs.lemmas.Option.{slice_get-get_or}
use Rattle.doc_passes.proofs.NameTables.{number_at}
use Rattle.doc_passes.proofs.name_table.has_number.Goals as goal

pub returns-in-Some : goal.returns-in-Some
returns-in-Some c = λ is.
    let names = c.args.names.now.keys in
    let there = c.in-Some.ensures.lookup in
    let found = c.in-Some.found.now in
    number_at names c.args.name.now c.args.number found c.as_slice.ensures.unique
    (ap (λ names. slice_get names c.args.number) (sym c.as_slice.ensures.keys)
    ∙ slice_get-get_or c.as_slice.result.now c.args.number found there.3.0
    ∙ ap Some (sym there.1))
    (sym c.eq.ensures ∙ is)
