use Rattle.std.proofs.Common.{ℕ, ◌≤◌, ◌<◌, suc}
use Rattle.closing_walk.specs.Walk.{closing_at}
use Rattle.closing_walk.proofs.walk.owed.Given as goal

-- no closing from this place on has a link of a higher number
abbrev pub invariant-loop-place : goal.invariant-loop-place
invariant-loop-place l = record {
  from : l.from ≤ l.place;
  upto : l.place ≤ l.at;
  lower : (later : ℕ) → l.place ≤ later → later < suc l.at → (closing_at l.closings later).link ≤ l.link;
}

abbrev pub decreases-loop-place : goal.decreases-loop-place
decreases-loop-place l = l.place
