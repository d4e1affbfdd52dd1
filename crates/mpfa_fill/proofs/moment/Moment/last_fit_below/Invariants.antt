use Rattle.std.proofs.Common.{◌≡◌, ◌-◌, ◌≤◌, ◌<◌, suc, true, false}
use Rattle.mpfa_fill.specs.Moment.{wan_in, state_of}
use Rattle.mpfa_fill.specs.LastFit.{is_over_at}
use Rattle.mpfa_fill.proofs.moment.Moment.last_fit_below.Given as goal

-- the link fits at the low end, where that has risen, and is over past the high end
abbrev pub invariant-loop-low : goal.invariant-loop-low
invariant-loop-low g l = record {
  from : l.fn.low ≤ l.low;
  order : l.low ≤ l.high;
  upto : l.high < l.fn.high;
  fits : l.fn.low < l.low → is_over_at (wan_in g.V.GroupValues.meaning l.self) (state_of l.self).closings l.low l.link ≡ false;
  over : is_over_at (wan_in g.V.GroupValues.meaning l.self) (state_of l.self).closings (suc l.high) l.link ≡ true;
}

abbrev pub decreases-loop-low : goal.decreases-loop-low
decreases-loop-low g l = l.high - l.low
