use Rattle.tiers.proofs.Lowered.{IsAdded}
use Rattle.tiers.proofs.fillings.add_loads.Given as goal

abbrev pub invariant-loop-link : goal.invariant-loop-link
invariant-loop-link l = IsAdded l.initial.loads l.loads l.more l.link
