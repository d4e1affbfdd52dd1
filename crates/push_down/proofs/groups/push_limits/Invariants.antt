use Rattle.std.proofs.Common.{◌≡◌, ◌++◌, drop, map}
use Rattle.push_down.proofs.groups.push_limits.Given as goal

abbrev pub invariant-loop-entry : goal.invariant-loop-entry
invariant-loop-entry l = l.limits.items ++ map (λ entry. entry.limit) (drop l.entry-index l.entries) ≡ l.fn.limits.items ++ map (λ entry. entry.limit) l.entries
