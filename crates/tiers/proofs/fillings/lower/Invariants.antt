use Rattle.tiers.proofs.Lowered.{IsLowered}
use Rattle.tiers.proofs.fillings.lower.Given as goal

abbrev pub invariant-loop-link : goal.invariant-loop-link
invariant-loop-link l = IsLowered l.initial.topology l.topology l.loads l.link
