use Rattle.std.proofs.Common.{◌≡◌, flat_map, take}
use Rattle.threaded_limits.proofs.all_limits_on_threads.Given as goal

abbrev pub invariant-loop-list : goal.invariant-loop-list
invariant-loop-list g l = l.limits.items ≡ flat_map (λ list. list.items) (take l.list-index l.list-items)
