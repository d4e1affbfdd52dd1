use Rattle.std.proofs.Common.{◌+◌, ◌≤◌}
use Rattle.link_front.specs.Front.{wan_in, closings_in}
use Rattle.closing_walk.specs.Known.{AreKnownTwice}
use Rattle.closing_walk.specs.Ends.{AreLoads}
use Rattle.closing_walk.proofs.ends.loads_in_end.Given as goal

-- the loads of the links so far, each of which was looked at once
abbrev pub invariant-loop-link : goal.invariant-loop-link
invariant-loop-link g l = record {
  known : AreKnownTwice (wan_in g.V.GroupValues.meaning l.front) l.known;
  loads : AreLoads (wan_in g.V.GroupValues.meaning l.front) (closings_in l.front) l.top l.link l.loads.items;
  ticks : l.steps ≤ l.fn.steps + l.link;
}
