use Rattle.std.proofs.Common.{◌≡◌, ℕ, ◌<◌}
use Rattle.mpfa_fill.specs.Growth.{IsUpOver}
use Rattle.link_front.specs.Front.{wan_in, standing_at, IsFront, KeepsParts}
use Rattle.link_front.proofs.Walks.{reached}
use Rattle.link_front.proofs.front.Front.bring_up.Given as goal

-- the groups so far have come up, if they grow over the link
abbrev pub invariant-loop-group : goal.invariant-loop-group
invariant-loop-group g l = record {
  front : IsFront g.V.GroupValues.meaning l.self;
  wan : wan_in g.V.GroupValues.meaning l.self ≡ wan_in g.V.GroupValues.meaning l.fn.self;
  parts : KeepsParts l.fn.self l.self;
  up : (group : ℕ) → group < reached l.group-items (wan_in g.V.GroupValues.meaning l.fn.self).groups l.group-index → IsUpOver (wan_in g.V.GroupValues.meaning l.fn.self) l.link l.share group (standing_at l.self group);
}
