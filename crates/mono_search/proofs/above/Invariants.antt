use Rattle.std.proofs.Common.{◌≡◌, ℕ, ◌+◌, ◌-◌, ◌^◌, ◌≤◌, true}
use Rattle.mono_search.proofs.above.Given as goal

abbrev pub invariant-loop-width : goal.invariant-loop-width
invariant-loop-width g l = record {
  order : l.low ≤ l.high;
  start : l.low + 1 ≡ l.fn.low + l.width;
  some : 1 ≤ l.width;
  fits : g.V.Level.meaning l.fn.level l.low ≡ true;
  same : g.V.Level.meaning l.level ≡ g.V.Level.meaning l.fn.level;
  count : (done : ℕ) × (l.steps ≡ l.initial.steps + done) × (l.width ≡ 2 ^ done);
}

abbrev pub decreases-loop-width : goal.decreases-loop-width
decreases-loop-width g l = l.high - l.low
