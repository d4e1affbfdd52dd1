use Rattle.allocation_laws.proofs.Allocations.{plan-never_falls}
use Rattle.allocation_laws.proofs.laws.plan_values_never_fall.Goals as goal

pub returns : goal.returns
returns c = plan-never_falls
