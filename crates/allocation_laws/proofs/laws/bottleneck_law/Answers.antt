use Rattle.allocation_laws.proofs.HeldBack.{held_back}
use Rattle.allocation_laws.proofs.laws.bottleneck_law.Goals as goal

pub returns : goal.returns
returns c = held_back
