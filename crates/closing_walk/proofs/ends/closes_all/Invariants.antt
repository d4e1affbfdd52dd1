use Rattle.std.proofs.Common.{◌≡◌, ℕ, ◌<◌, ◌≤◌, take, reverse}
use Rattle.bwe_specs.specs.RightClosings.{last_share}
use Rattle.link_front.specs.Front.{wan_in, closings_in, IsFront}
use Rattle.closing_walk.specs.Walk.{closing_at, IsOrdered}
use Rattle.closing_walk.proofs.ends.closes_all.Given as goal

-- the closings so far are made, in order
abbrev pub invariant-loop-at : goal.invariant-loop-at
invariant-loop-at g l = record {
  front : IsFront g.V.GroupValues.meaning l.front;
  wan : wan_in g.V.GroupValues.meaning l.front ≡ wan_in g.V.GroupValues.meaning l.fn.front;
  closings : closings_in l.front ≡ reverse (take l.at l.closings);
  order : IsOrdered (wan_in g.V.GroupValues.meaning l.fn.front) l.closings l.at;
  last : (place : ℕ) → place < l.at → (closing_at l.closings place).share ≤ last_share (closings_in l.front);
}
