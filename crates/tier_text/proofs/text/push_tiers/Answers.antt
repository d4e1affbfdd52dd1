use Rattle.std.proofs.Common.{◌≡◌, Vec, Global, length, arith}
use Rattle.std.proofs.lemmas.List.{length-map}
use Rattle.bwe_specs.specs.declared.network.Closing.{Closing}
use Rattle.bwe_specs.specs.Lists.{lists_of}
use Rattle.tier_text.proofs.text.push_tiers.Goals as goal

pub returns : goal.returns
returns c =
    let all : length (lists_of c.args.tiers.now) ≡ c.loop-tier.tier = omega (arith, length-map c.args.tiers.now (λ (list : Vec Closing Global). list.items)) in
    rw (all) c.loop-tier.invariant
