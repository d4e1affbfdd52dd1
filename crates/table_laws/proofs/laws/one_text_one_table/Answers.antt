use Rattle.table_laws.proofs.Printed.{one-text}
use Rattle.table_laws.proofs.laws.one_text_one_table.Goals as goal

pub returns : goal.returns
returns c = one-text
