use Rattle.std.proofs.Common.{◌≡◌, ◌+◌, ◌-◌, ◌^◌, ◌≤◌}
use Rattle.share_meeting.specs.Ends.{AreEnds}
use Rattle.share_meeting.proofs.meeting.drawn_together.Given as goal

abbrev pub invariant-loop-look : goal.invariant-loop-look
invariant-loop-look g l = record {
  ends : AreEnds (g.P.ShareFunction.meaning l.sum) l.amount l.ends;
  top : l.ends.top ≡ l.fn.ends.top;
  from : l.fn.ends.low ≤ l.ends.low;
  upto : l.ends.high ≤ l.fn.ends.high;
  ticks : l.steps ≤ l.initial.steps + l.look;
  none : l.fn.ends.high ≡ l.fn.ends.low + 1 → (l.steps ≡ l.initial.steps) × (l.ends.high ≡ l.ends.low + 1);
  halves : 28 ≤ l.look → l.ends.high ≤ l.ends.low + 2 ^ (58 - l.look);
}
