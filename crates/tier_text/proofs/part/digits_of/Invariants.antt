use Rattle.std.proofs.Common.{◌≡◌}
use Rattle.tier_text.specs.TierPart.{tiers_in}
use Rattle.tier_text.proofs.part.digits_of.Given as goal

abbrev pub invariant-loop-group : goal.invariant-loop-group
invariant-loop-group l = l.tiers.items ≡ tiers_in l.group l.part
