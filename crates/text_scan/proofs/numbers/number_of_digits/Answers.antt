use Rattle.text_scan.proofs.NumberFacts.{are_text, not_parsed, parsed}
use Rattle.text_scan.proofs.numbers.number_of_digits.Goals as goal

pub returns-in-Ok-parse : goal.returns-in-Ok-parse
returns-in-Ok-parse c = parsed c.args.digits.now c.in-Ok-parse.number c.parse.result c.requires (rw c.in-Ok.ensures.cases.0 at c.parse.ensures.value.0) c.in-Ok-parse.is

pub returns-in-Err-parse : goal.returns-in-Err-parse
returns-in-Err-parse c = not_parsed c.args.digits.now c.in-Err-parse.field-0 c.parse.result c.requires (rw c.in-Ok.ensures.cases.0 at c.parse.ensures.value.0) c.in-Err-parse.is

pub returns-in-Err : goal.returns-in-Err
returns-in-Err c = absurd (c.in-Err.ensures.cases.0 (are_text c.args.digits.now c.requires))
