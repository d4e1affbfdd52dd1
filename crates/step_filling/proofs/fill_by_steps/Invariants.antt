use Rattle.std.proofs.Common.{◌≡◌, ◌+◌, ◌-◌, length}
use Rattle.bwe_specs.specs.Filling.{IsReached}
use Rattle.mpfa_fill.specs.GroupValues.{wan_of}
use Rattle.mpfa_fill.specs.Moment.{wan_in, state_of, IsMoment}
use Rattle.step_filling.proofs.fill_by_steps.Given as goal

-- the code stands at a moment of the filling
abbrev pub invariant-loop-moment : goal.invariant-loop-moment
invariant-loop-moment g l = record {
  moment : IsMoment g.V.GroupValues.meaning l.moment;
  wan : wan_in g.V.GroupValues.meaning l.moment ≡ wan_of (g.V.GroupValues.meaning l.values) l.plan l.topology.capacities;
  reached : IsReached (wan_of (g.V.GroupValues.meaning l.values) l.plan l.topology.capacities) (state_of l.moment);
}

-- each step raises the share or closes a link
abbrev pub decreases-loop-moment : goal.decreases-loop-moment
decreases-loop-moment g l =
    ((g.V.GroupValues.meaning l.values).top + length l.topology.capacities) - (l.moment.share + length (state_of l.moment).closings)
