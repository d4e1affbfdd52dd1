use Rattle.std.proofs.Common.{◌≡◌, ◌+◌, ◌≤◌, take, reverse, []}
use Rattle.link_front.specs.Front.{wan_in, closings_in, IsFront}
use Rattle.closing_walk.specs.Ends.{AreEndLoads}
use Rattle.closing_walk.specs.Known.{AreKnownTwice}
use Rattle.closing_walk.specs.Walk.{IsWalked}
use Rattle.link_front.specs.Moves.{moves_ahead}
use Rattle.closing_walk.proofs.walk.is_walked.Given as goal

-- the walk has come to a place of the list
abbrev pub invariant-loop-at : goal.invariant-loop-at
invariant-loop-at g l = record {
  front : IsFront g.V.GroupValues.meaning l.front;
  wan : wan_in g.V.GroupValues.meaning l.front ≡ wan_in g.V.GroupValues.meaning l.fn.front;
  known : AreKnownTwice (wan_in g.V.GroupValues.meaning l.fn.front) l.known;
  ends : AreEndLoads (wan_in g.V.GroupValues.meaning l.fn.front) l.closings l.ends;
  closings : closings_in l.front ≡ reverse (take l.at l.closings);
  walked : IsWalked (wan_in g.V.GroupValues.meaning l.front) (closings_in l.front) l.closings l.at l.froms;
  ticks : l.steps + moves_ahead (wan_in g.V.GroupValues.meaning l.front) (closings_in l.front)
      ≤ l.fn.steps + l.at + moves_ahead (wan_in g.V.GroupValues.meaning l.fn.front) [];
}
