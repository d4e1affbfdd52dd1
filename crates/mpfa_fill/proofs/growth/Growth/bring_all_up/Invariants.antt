use Rattle.std.proofs.Common.{◌≡◌, ℕ, ◌<◌}
use Rattle.mpfa_fill.specs.Growth.{wan_in, standing_at, IsGrowth, IsUp, KeepsParts}
use Rattle.mpfa_fill.proofs.growth.Growth.bring_all_up.Given as goal

-- the groups so far have come up, if they grow
abbrev pub invariant-loop-group : goal.invariant-loop-group
invariant-loop-group g l = record {
  growth : IsGrowth g.V.GroupValues.meaning l.self;
  wan : wan_in g.V.GroupValues.meaning l.self ≡ wan_in g.V.GroupValues.meaning l.fn.self;
  parts : KeepsParts l.fn.self l.self;
  up : (group : ℕ) → group < l.group → IsUp (wan_in g.V.GroupValues.meaning l.fn.self) l.share group (standing_at l.self group);
}
