use Rattle.bwe_specs.proofs.HandedOut.{sum-cluster_limits}
use Rattle.allocation_laws.proofs.laws.conservation_law.Goals as goal

pub returns : goal.returns
returns c = sum-cluster_limits
