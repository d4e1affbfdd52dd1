use Rattle.std.proofs.Common.{◌≡◌, ◌+◌, ◌-◌, ◌≤◌, ◌++◌, drop, All}
use Rattle.bwe_specs.specs.declared.limits.TheConstants.{MAX_TOTAL}
use Rattle.bwe_specs.specs.Distribution.{children_sum, handed_out}
use Rattle.push_down.proofs.share.shared_out.Given as goal

abbrev pub invariant-loop-place : goal.invariant-loop-place
invariant-loop-place g l = record {
  handed : l.amounts.items ++ handed_out (drop l.place (g.F.Children.values l.children)) l.share l.rest
      ≡ handed_out (g.F.Children.values l.children) l.share (l.fn.amount - children_sum (g.F.Children.values l.children) l.share);
  rest : l.rest ≤ l.fn.amount;
  bound : All (λ given. given ≤ l.fn.amount + MAX_TOTAL) l.amounts.items;
}
