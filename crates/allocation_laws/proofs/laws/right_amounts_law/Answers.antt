use Rattle.bwe_specs.proofs.Certificates.{right-closings}
use Rattle.allocation_laws.proofs.laws.right_amounts_law.Goals as goal

pub returns : goal.returns
returns c wan never closings right = (right-closings wan never closings right).1
