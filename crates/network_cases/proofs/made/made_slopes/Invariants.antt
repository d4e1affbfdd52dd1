use Rattle.std.proofs.Common.{◌≡◌, length}
use Rattle.network_cases.proofs.made.made_slopes.Given as goal

-- a slope for each group so far
abbrev pub invariant-loop-group : goal.invariant-loop-group
invariant-loop-group l = length l.slopes.items ≡ l.group
