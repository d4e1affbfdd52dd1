use Rattle.link_front.specs.Front.{wan_in, closings_in}
use Rattle.closing_walk.specs.Known.{AreKnownTwice}
use Rattle.closing_walk.specs.Walk.{Settles}
use Rattle.link_front.proofs.Walks.{reached}
use Rattle.closing_walk.proofs.AllGroups.{AreOff}
use Rattle.closing_walk.proofs.walk.settles_all.Given as goal

-- the links that the groups so far leave and come to are settled
abbrev pub invariant-loop-group : goal.invariant-loop-group
invariant-loop-group g l = record {
  known : AreKnownTwice (wan_in g.V.GroupValues.meaning l.front) l.known;
  settles : Settles (wan_in g.V.GroupValues.meaning l.front) (closings_in l.front) l.closings l.at l.fn.froms l.froms;
  off : AreOff (wan_in g.V.GroupValues.meaning l.front) (closings_in l.front) l.closings l.at l.froms l.fn.steps l.steps (reached l.group-items (wan_in g.V.GroupValues.meaning l.front).groups l.group-index);
}
