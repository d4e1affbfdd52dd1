use Rattle.std.proofs.Common.{◌≡◌, ℕ, List, All, length}
use Rattle.kept_tree.specs.Known.{IsKnownOf}
use Rattle.kept_tree.proofs.tree.nothing.Given as goal

abbrev pub invariant-loop : goal.invariant-loop
invariant-loop l = record {
  count : length l.known.items ≡ l.counter;
  each : (value_of : ℕ → ℕ) (limits_of : ℕ → List ℕ) → All (IsKnownOf value_of limits_of) l.known.items;
}
