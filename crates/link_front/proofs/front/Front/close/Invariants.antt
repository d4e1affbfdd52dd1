use Rattle.std.proofs.Common.{◌≡◌, ◌++◌, ◌∷◌, [], length}
use Rattle.mpfa_fill.specs.Growth.{KeepsNetwork}
use Rattle.link_front.specs.Front.{wan_in, closings_in, added_in}
use Rattle.link_front.proofs.Moving.{AreMoved}
use Rattle.link_front.proofs.Walks.{reached}
use Rattle.link_front.proofs.front.Front.close.Given as goal

-- the groups so far are held as they are after the closing
abbrev pub invariant-loop-group : goal.invariant-loop-group
invariant-loop-group g l = record {
  network : KeepsNetwork l.fn.self.growth l.self.growth;
  closings : l.self.growth.closings ≡ l.fn.self.growth.closings ++ l.closing ∷ [];
  sums : l.self.growth.sums ≡ l.initial.self.growth.sums;
  each_group : length l.self.growth.standings.items ≡ length (wan_in g.V.GroupValues.meaning l.fn.self).groups;
  by_link : l.self.by_link.now ≡ l.fn.self.by_link.now;
  moved : AreMoved (wan_in g.V.GroupValues.meaning l.fn.self) (closings_in l.fn.self) l.closing (added_in l.initial.self) l.self.growth.standings.items (reached l.group-items (wan_in g.V.GroupValues.meaning l.fn.self).groups l.group-index);
}
