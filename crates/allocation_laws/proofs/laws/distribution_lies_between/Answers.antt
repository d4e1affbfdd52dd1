use Rattle.bwe_specs.proofs.HandedOut.{distribution-between}
use Rattle.allocation_laws.proofs.laws.distribution_lies_between.Goals as goal

pub returns : goal.returns
returns c = distribution-between
