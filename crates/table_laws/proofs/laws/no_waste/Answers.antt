use Rattle.table_laws.proofs.Wasted.{without-waste}
use Rattle.table_laws.proofs.laws.no_waste.Goals as goal

pub returns : goal.returns
returns c = without-waste
