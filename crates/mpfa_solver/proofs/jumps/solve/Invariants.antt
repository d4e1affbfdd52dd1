use Rattle.std.proofs.Common.{◌≡◌, ◌+◌, ◌-◌, ◌*◌, ◌≤◌, length, reverse}
use Rattle.bwe_specs.specs.Filling.{IsReached, filling}
use Rattle.mpfa_fill.specs.GroupValues.{wan_of}
use Rattle.mpfa_fill.specs.Moment.{wan_in, state_of, IsMoment}
use Rattle.mpfa_solver.specs.Search.{AreLinks}
use Rattle.mpfa_solver.specs.Stops.{searches}
use Rattle.mpfa_solver.proofs.jumps.solve.Given as goal

-- the code stands at a moment of the filling, to which few searches led
abbrev pub invariant-loop-notes : goal.invariant-loop-notes
invariant-loop-notes g l = record {
  moment : IsMoment g.V.GroupValues.meaning l.moment;
  wan : wan_in g.V.GroupValues.meaning l.moment ≡ wan_of (g.V.GroupValues.meaning l.values) l.plan l.topology.capacities;
  reached : IsReached (wan_of (g.V.GroupValues.meaning l.values) l.plan l.topology.capacities) (state_of l.moment);
  named : AreLinks (wan_of (g.V.GroupValues.meaning l.values) l.plan l.topology.capacities) l.notes.named.items;
  ticks : l.steps + l.notes.left ≤ l.fn.steps + 62 * searches (g.V.GroupValues.meaning l.values).top (state_of l.moment);
  right_hints : l.hints ≡ reverse (filling (wan_of (g.V.GroupValues.meaning l.values) l.plan l.topology.capacities)).closings
      → l.steps ≤ l.fn.steps + 2 * searches (g.V.GroupValues.meaning l.values).top (state_of l.moment);
}

-- each search comes to the top or adds a closing
abbrev pub decreases-loop-notes : goal.decreases-loop-notes
decreases-loop-notes g l =
    (1 + length l.topology.capacities) - searches (g.V.GroupValues.meaning l.values).top (state_of l.moment)
