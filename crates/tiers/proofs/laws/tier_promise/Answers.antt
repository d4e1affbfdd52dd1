use Rattle.tiers.proofs.Lower.{equal-up_to}
use Rattle.tiers.proofs.laws.tier_promise.Goals as goal

pub returns : goal.returns
returns c plan tiers last prefix capacities demand other clusters one_each walk agree =
    equal-up_to plan tiers last capacities demand other clusters one_each agree prefix walk
