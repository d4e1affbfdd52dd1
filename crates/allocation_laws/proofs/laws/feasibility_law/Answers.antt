use Rattle.allocation_laws.proofs.Allocations.{allocation-feasible}
use Rattle.allocation_laws.proofs.laws.feasibility_law.Goals as goal

pub returns : goal.returns
returns c = allocation-feasible
