use Rattle.std.proofs.Common.{◌≡◌, ◌++◌, ◌∷◌, [], length}
use Rattle.mpfa_fill.specs.Growth.{KeepsNetwork}
use Rattle.link_front.specs.Front.{wan_in, closings_in, added_in}
use Rattle.link_solver.proofs.Moving.{AreMoved}
use Rattle.link_solver.proofs.Counting.{AreCounted}
use Rattle.link_front.proofs.Walks.{reached}
use Rattle.link_solver.proofs.search.close.Given as goal

-- the groups so far are held as they are after the closing, and have marked the dues
abbrev pub invariant-loop-group : goal.invariant-loop-group
invariant-loop-group g l = record {
  network : KeepsNetwork l.fn.front.growth l.front.growth;
  closings : l.front.growth.closings ≡ l.fn.front.growth.closings ++ l.closing ∷ [];
  sums : l.front.growth.sums ≡ l.initial.front.growth.sums;
  each_group : length l.front.growth.standings.items ≡ length (wan_in g.V.GroupValues.meaning l.fn.front).groups;
  by_link : l.front.by_link.now ≡ l.fn.front.by_link.now;
  each_link : length l.dues ≡ length l.fn.dues;
  moved : AreMoved (wan_in g.V.GroupValues.meaning l.fn.front) (closings_in l.fn.front) l.closing (added_in l.initial.front) l.fn.dues l.front.growth.standings.items l.dues (reached l.group-items (wan_in g.V.GroupValues.meaning l.fn.front).groups l.group-index);
  counted : AreCounted (wan_in g.V.GroupValues.meaning l.fn.front) (closings_in l.fn.front) l.closing (length l.fn.dues) l.fn.plays l.plays l.fn.moves l.moves (reached l.group-items (wan_in g.V.GroupValues.meaning l.fn.front).groups l.group-index);
}
