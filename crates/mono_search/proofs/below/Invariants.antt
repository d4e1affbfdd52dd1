use Rattle.std.proofs.Common.{◌≡◌, ℕ, ◌+◌, ◌-◌, ◌^◌, ◌<◌, ◌≤◌, false}
use Rattle.mono_search.proofs.below.Given as goal

abbrev pub invariant-loop-width : goal.invariant-loop-width
invariant-loop-width g l = record {
  order : l.low ≤ l.high;
  start : l.high + l.width ≡ l.fn.high + 1;
  some : 1 ≤ l.width;
  over : (share : ℕ) → l.high < share → share ≤ l.fn.high → g.V.Level.meaning l.fn.level share ≡ false;
  same : g.V.Level.meaning l.level ≡ g.V.Level.meaning l.fn.level;
  count : (done : ℕ) × (l.steps ≡ l.initial.steps + done) × (l.width ≡ 2 ^ done);
}

abbrev pub decreases-loop-width : goal.decreases-loop-width
decreases-loop-width g l = l.high - l.low
