use Rattle.std.proofs.Common.{◌≡◌, ℕ, ◌<◌, ◌≤◌, ◌++◌, ◌∷◌, [], length}
use Rattle.mpfa_fill.specs.Growth.{closings_in, added_in, standing_at, IsHeld, KeepsNetwork}
use Rattle.mpfa_fill.specs.Moment.{wan_in}
use Rattle.mpfa_fill.proofs.moment.Moment.close_link.Given as goal

-- the groups so far are held as they are after the closing
abbrev pub invariant-loop-group : goal.invariant-loop-group
invariant-loop-group g l = record {
  network : KeepsNetwork l.fn.self.growth l.self.growth;
  share : l.self.share ≡ l.fn.self.share;
  closings : l.self.growth.closings ≡ l.fn.self.growth.closings ++ record { link = l.link; share = l.fn.self.share } ∷ [];
  sums : l.self.growth.sums ≡ l.fn.self.growth.sums;
  each_group : length l.self.growth.standings.items ≡ length l.fn.self.growth.plan.now;
  gone : (group : ℕ) → group < l.group → IsHeld (wan_in g.V.GroupValues.meaning l.fn.self) (record { link = l.link; share = l.fn.self.share } ∷ closings_in l.fn.self.growth) (added_in l.fn.self.growth) group (standing_at l.self.growth group);
  left : (group : ℕ) → l.group ≤ group → group < length l.fn.self.growth.plan.now → IsHeld (wan_in g.V.GroupValues.meaning l.fn.self) (closings_in l.fn.self.growth) (added_in l.fn.self.growth) group (standing_at l.self.growth group);
}
