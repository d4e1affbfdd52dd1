use Rattle.bwe_specs.proofs.HandedOut.{sum-distribution}
use Rattle.allocation_laws.proofs.laws.distribution_adds_up.Goals as goal

pub returns : goal.returns
returns c = sum-distribution
