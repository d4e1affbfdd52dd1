use Rattle.change_text.proofs.LawFacts.{kept_are_made}
use Rattle.change_text.proofs.laws.kept_tables_are_made_tables.Goals as goal

pub returns : goal.returns
returns c = kept_are_made
