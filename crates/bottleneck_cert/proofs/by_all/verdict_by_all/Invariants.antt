use Rattle.std.proofs.Common.{◌≡◌, drop}
use Rattle.bwe_specs.specs.RightClosings.{last_share, verdict_after, verdict}
use Rattle.mpfa_fill.specs.GroupValues.{wan_of}
use Rattle.mpfa_fill.specs.Moment.{IsMoment, wan_in, state_of}
use Rattle.bottleneck_cert.proofs.by_all.verdict_by_all.Given as goal

-- the closings so far are right, and the verdict on the rest is that on all
abbrev pub invariant-loop-place : goal.invariant-loop-place
invariant-loop-place g l = record {
  moment : IsMoment g.V.GroupValues.meaning l.moment;
  wan : wan_in g.V.GroupValues.meaning l.moment ≡ wan_of (g.V.GroupValues.meaning l.values) l.plan l.topology.capacities;
  last : (state_of l.moment).share ≡ last_share (state_of l.moment).closings;
  rest : verdict_after (wan_of (g.V.GroupValues.meaning l.values) l.plan l.topology.capacities) (state_of l.moment).closings (drop l.place l.closings) l.place
      ≡ verdict (wan_of (g.V.GroupValues.meaning l.values) l.plan l.topology.capacities) l.closings;
}
