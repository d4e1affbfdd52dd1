use Rattle.std.proofs.Common.{◌≡◌, ◌+◌, ◌≤◌}
use Rattle.mono_search.specs.Level.{IsGreatestFit}
use Rattle.mpfa_solver.specs.Search.{fits_from, IsRise, IsBound, AreLinks}
use Rattle.mpfa_solver.proofs.rise.risen.Given as goal

-- nothing fits above the bound, and where the hint is the answer, the bound is the hint and few tests were made
abbrev pub invariant-loop-bound : goal.invariant-loop-bound
invariant-loop-bound g l = record {
  rise : IsRise g.V.GroupValues.meaning g.S.Search.wan g.S.Search.closings g.S.Search.low l.moment l.low l.top;
  bound : IsBound (fits_from g.S.Search.wan g.S.Search.closings g.S.Search.low) g.S.Search.low g.S.Search.wan.top l.bound;
  right_hint : IsGreatestFit (fits_from g.S.Search.wan g.S.Search.closings g.S.Search.low) g.S.Search.low g.S.Search.wan.top l.hint → l.bound ≡ l.hint;
  few : IsGreatestFit (fits_from g.S.Search.wan g.S.Search.closings g.S.Search.low) g.S.Search.low g.S.Search.wan.top l.hint → l.steps ≤ l.fn.steps + 1;
  ready : IsGreatestFit (fits_from g.S.Search.wan g.S.Search.closings g.S.Search.low) g.S.Search.low g.S.Search.wan.top l.hint → 61 ≤ l.notes.left;
  named : AreLinks g.S.Search.wan l.notes.named.items;
  left : 60 ≤ l.notes.left;
  ticks : l.steps + l.notes.left ≤ l.fn.steps + l.fn.notes.left;
}

abbrev pub decreases-loop-bound : goal.decreases-loop-bound
decreases-loop-bound g l = l.bound
