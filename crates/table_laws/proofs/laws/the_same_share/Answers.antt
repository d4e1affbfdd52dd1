use Rattle.table_laws.proofs.Shared.{shared-alike}
use Rattle.table_laws.proofs.laws.the_same_share.Goals as goal

pub returns : goal.returns
returns c = shared-alike
