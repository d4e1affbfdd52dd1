use Rattle.tiers.specs.Fillings.{IsFilledTo}
use Rattle.tiers.proofs.fillings.fill_each.Given as goal

abbrev pub invariant-loop-tier : goal.invariant-loop-tier
invariant-loop-tier l = IsFilledTo l.tree l.initial.topology l.plan l.tiers l.tier l.topology l.fillings
