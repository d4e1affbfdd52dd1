use Rattle.std.proofs.Common.{◌≡◌, ◌≤◌, ◌+◌, ◌++◌, length, take}
use Rattle.std.specs.VecDeque.{deque_len, deque_capacity}
use Rattle.board_workshop.proofs.queue.Given as goal

abbrev pub invariant-loop-report : goal.invariant-loop-report
invariant-loop-report l = record {
  items : l.waiting.items ≡ l.initial.waiting.items ++ take l.report-index l.more;
  room : deque_len l.waiting + length l.more ≤ deque_capacity l.waiting + l.report-index;
}
