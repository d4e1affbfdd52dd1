use Rattle.link_front.specs.Front.{wan_in}
use Rattle.closing_walk.specs.Ends.{AreEndLoads}
use Rattle.closing_walk.proofs.ends.EndLoads.unbound.Given as goal

-- the loads in the end stay as they are
abbrev pub invariant-loop-group : goal.invariant-loop-group
invariant-loop-group g l = AreEndLoads (wan_in g.V.GroupValues.meaning l.front) l.closings l.self
