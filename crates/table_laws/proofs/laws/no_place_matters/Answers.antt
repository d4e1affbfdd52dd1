use Rattle.table_laws.proofs.Alike.{alike}
use Rattle.table_laws.proofs.laws.no_place_matters.Goals as goal

pub returns : goal.returns
returns c plan group_at place_of renumber prefix demand other capacities one_each order numbered moved_numbered same =
    alike plan group_at place_of renumber prefix demand other capacities one_each order same numbered moved_numbered
