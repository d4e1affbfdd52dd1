use Rattle.std.proofs.Common.{Some, None, Ok, ap, ◌∙◌, rules}
use Rattle.doc_passes.proofs.NameTables.{number_is, fails_here}
use Rattle.doc_passes.proofs.name_table.number_of.Goals as goal

pub returns-in-Ok : goal.returns-in-Ok
returns-in-Ok c = number_is c.args.names.now.keys c.args.name.now (Some c.in-Some.number) c.in-Some.ensures.index ∙ ap Ok (search rules)

pub returns-in-None : goal.returns-in-None
returns-in-None c = fails_here _ c.here.result (number_is c.args.names.now.keys c.args.name.now None c.in-None.ensures.index) c.here.ensures
