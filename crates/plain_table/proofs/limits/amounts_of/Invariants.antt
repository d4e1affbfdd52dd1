use Rattle.std.proofs.Common.{◌≡◌, map, take}
use Rattle.plain_table.proofs.limits.amounts_of.Given as goal

abbrev pub invariant-loop-line : goal.invariant-loop-line
invariant-loop-line l = l.amounts.items ≡ map (λ line. line.amount) (take l.line-index l.groups)
