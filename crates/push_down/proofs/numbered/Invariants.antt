use Rattle.std.proofs.Common.{◌≡◌, ◌+◌, take}
use Rattle.std.specs.List.{range_with_len}
use Rattle.push_down.specs.Limits.{tasks_in, limits_in}
use Rattle.push_down.proofs.numbered.Given as goal

abbrev pub invariant-loop-limit : goal.invariant-loop-limit
invariant-loop-limit l = record {
  task : l.task ≡ l.fn.first + l.limit-index;
  limits : limits_in l.entries.items ≡ take l.limit-index l.limits;
  tasks : tasks_in l.entries.items ≡ range_with_len l.fn.first l.limit-index;
}
