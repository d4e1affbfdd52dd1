use Rattle.std.proofs.Common.{◌≡◌, ◌+◌, ◌-◌, length}
use Rattle.bwe_specs.specs.RightClosings.{AreRight}
use Rattle.link_solver.specs.Dues.{AreDues}
use Rattle.link_front.specs.Front.{wan_in, closings_in, IsFront}
use Rattle.link_solver.proofs.guessed.close_guessed.Given as goal

-- the closings so far are those of the filling, and each link has its due under them
abbrev pub invariant-loop-closing : goal.invariant-loop-closing
invariant-loop-closing g l = record {
  front : IsFront g.V.GroupValues.meaning l.front;
  right : AreRight (wan_in g.V.GroupValues.meaning l.front) (closings_in l.front);
  wan : wan_in g.V.GroupValues.meaning l.front ≡ wan_in g.V.GroupValues.meaning l.fn.front;
  dues : AreDues (wan_in g.V.GroupValues.meaning l.front) (closings_in l.front) l.dues;
}

-- each closing is of one more link
abbrev pub decreases-loop-closing : goal.decreases-loop-closing
decreases-loop-closing g l = (1 + length (wan_in g.V.GroupValues.meaning l.fn.front).capacities) - length (closings_in l.front)
