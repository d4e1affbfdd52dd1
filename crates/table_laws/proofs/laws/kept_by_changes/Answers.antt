use Rattle.demand_book.proofs.Followed.{kept-by-changes}
use Rattle.table_laws.proofs.laws.kept_by_changes.Goals as goal

pub returns : goal.returns
returns c = kept-by-changes
