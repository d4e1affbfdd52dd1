use Rattle.link_solver.specs.Dues.{AreDues}
use Rattle.link_front.specs.Front.{wan_in, closings_in}
use Rattle.link_solver.proofs.Stale.{left_in}
use Rattle.link_solver.proofs.guessed.next_guessed.Given as goal

-- each link has its due
abbrev pub invariant-loop-found : goal.invariant-loop-found
invariant-loop-found g l = record {
  dues : AreDues (wan_in g.V.GroupValues.meaning l.front) (closings_in l.front) l.dues;
}

-- with each look more is known
abbrev pub decreases-loop-found : goal.decreases-loop-found
decreases-loop-found g l = left_in l.dues
