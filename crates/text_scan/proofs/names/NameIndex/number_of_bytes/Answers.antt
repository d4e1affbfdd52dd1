use Rattle.text_scan.proofs.NameFacts.{no_number}
use Rattle.text_scan.proofs.names.NameIndex.number_of_bytes.Goals as goal

pub returns-in-Err : goal.returns-in-Err
returns-in-Err c = λ names is. no_number names c.args.self.now.numbers c.args.name.now is c.in-Err.ensures.cases.0
