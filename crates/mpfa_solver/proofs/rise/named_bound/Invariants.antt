use Rattle.std.proofs.Common.{◌≡◌, length}
use Rattle.mpfa_solver.specs.Search.{AreLinks}
use Rattle.mpfa_solver.proofs.rise.named_bound.Given as goal

-- the links that are left are links, and the tests that are left are as before
abbrev pub invariant-loop-link : goal.invariant-loop-link
invariant-loop-link g l = record {
  named : AreLinks g.S.Search.wan l.notes.named.items;
  left : l.notes.left ≡ l.fn.notes.left;
}

abbrev pub decreases-loop-link : goal.decreases-loop-link
decreases-loop-link g l = length l.notes.named.items
