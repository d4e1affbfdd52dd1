use Rattle.std.proofs.Common.{◌≡◌, ◌++◌, take, filter_map}
use Rattle.last_reports.proofs.kept.push_told.Given as goal

abbrev pub invariant-loop-last : goal.invariant-loop-last
invariant-loop-last l = l.list.items ≡ l.initial.list.items ++ filter_map (λ last. last) (take l.last-index l.told)
