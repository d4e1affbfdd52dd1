use Rattle.std.proofs.Common.{◌≡◌, length}
use Rattle.link_front.proofs.by_link.count_parts.Given as goal

abbrev pub invariant-loop-part : goal.invariant-loop-part
invariant-loop-part l = length l.counts ≡ length l.fn.counts
