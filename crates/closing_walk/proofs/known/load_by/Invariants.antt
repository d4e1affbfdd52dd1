use Rattle.link_front.specs.Front.{wan_in, AreKnown}
use Rattle.closing_walk.proofs.known.load_by.Given as goal

-- what is known stays so
abbrev pub invariant-loop-group : goal.invariant-loop-group
invariant-loop-group g l = AreKnown (wan_in g.V.GroupValues.meaning l.front) l.known
