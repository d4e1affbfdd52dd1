use Rattle.std.proofs.Common.{◌≡◌, length}
use Rattle.closing_walk.proofs.ends.clear_parts.Given as goal

-- there is an extra for each link
abbrev pub invariant-loop-part : goal.invariant-loop-part
invariant-loop-part l = length l.extra ≡ length l.fn.extra
