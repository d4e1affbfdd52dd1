use Rattle.bwe_specs.proofs.StopShares.{filling-amount}
use Rattle.allocation_laws.proofs.laws.common_share_law.Goals as goal

pub returns : goal.returns
returns c = filling-amount
