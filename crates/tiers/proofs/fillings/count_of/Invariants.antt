use Rattle.std.proofs.Common.{◌≡◌, ◌≤◌, take}
use Rattle.tiers.specs.Tiered.{tier_count}
use Rattle.tiers.proofs.fillings.count_of.Given as goal

abbrev pub invariant-loop-tier : goal.invariant-loop-tier
invariant-loop-tier l = (l.count ≡ tier_count (take l.tier-index l.tiers)) × (l.count ≤ 256)
