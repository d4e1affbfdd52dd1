use Rattle.std.proofs.Common.{◌≡◌, map, take}
use Rattle.kept_tree.proofs.limits.group_limits.Given as goal

abbrev pub invariant-loop-entry : goal.invariant-loop-entry
invariant-loop-entry l = l.limits.items ≡ map (λ entry. entry.limit) (take l.entry-index l.entry-items)
