use Rattle.bwe_specs.proofs.Steps.{filling-at_top}
use Rattle.allocation_laws.proofs.laws.filling_reaches_top.Goals as goal

pub returns : goal.returns
returns c = filling-at_top
