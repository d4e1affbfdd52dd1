use Rattle.table_laws.proofs.Asked.{no-more-than-asked}
use Rattle.table_laws.proofs.laws.no_more_than_asked.Goals as goal

pub returns : goal.returns
returns c = no-more-than-asked
