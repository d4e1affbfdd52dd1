use Rattle.std.proofs.Common.{◌≡◌, ℕ, ◌<◌, true}
use Rattle.tier_text.specs.TierPart.{is_due}
use Rattle.tier_text.proofs.part.first_fault.Given as goal

abbrev pub invariant-loop-at : goal.invariant-loop-at
invariant-loop-at l = (k : ℕ) → k < l.at → is_due l.groups l.part k ≡ true
