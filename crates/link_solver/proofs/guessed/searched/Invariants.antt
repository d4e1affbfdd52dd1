use Rattle.std.proofs.Common.{◌≡◌, ◌+◌, ◌-◌, ◌≤◌, ◌<◌, true, false}
use Rattle.link_front.specs.Front.{wan_in, closings_in}
use Rattle.mpfa_fill.specs.LastFit.{is_over_at}
use Rattle.link_solver.specs.Dues.{load_at}
use Rattle.link_solver.proofs.guessed.searched.Given as goal

-- the link fits at the low end, where that has risen, and is over at the high end, where that is not above the top
abbrev pub invariant-loop-high : goal.invariant-loop-high
invariant-loop-high g l = record {
  from : l.fn.due.share ≤ l.low;
  order : l.low < l.high;
  upto : l.high ≤ l.fn.due.over;
  within : l.high ≤ l.fn.top + 1;
  fits : l.fn.due.share < l.low → is_over_at (wan_in g.V.GroupValues.meaning l.front) (closings_in l.front) l.low l.link ≡ false;
  over : l.high ≤ l.fn.top → is_over_at (wan_in g.V.GroupValues.meaning l.front) (closings_in l.front) l.high l.link ≡ true;
  low_load : load_at (wan_in g.V.GroupValues.meaning l.front) (closings_in l.front) l.fn.due.share l.link ≤ l.fn.due.low_load → load_at (wan_in g.V.GroupValues.meaning l.front) (closings_in l.front) l.low l.link ≤ l.low_load;
  over_load : (l.fn.due.over ≤ l.fn.top → l.fn.due.over_load ≤ load_at (wan_in g.V.GroupValues.meaning l.front) (closings_in l.front) l.fn.due.over l.link) → l.high ≤ l.fn.top → l.over_load ≤ load_at (wan_in g.V.GroupValues.meaning l.front) (closings_in l.front) l.high l.link;
}

abbrev pub decreases-loop-high : goal.decreases-loop-high
decreases-loop-high g l = l.high - l.low
