use Rattle.allocation_laws.proofs.Allocations.{allocation-interleaved}
use Rattle.allocation_laws.proofs.laws.interleaving_law.Goals as goal

pub returns : goal.returns
returns c = allocation-interleaved
