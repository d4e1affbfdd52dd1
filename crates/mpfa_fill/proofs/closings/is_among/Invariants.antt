use Rattle.std.proofs.Common.{◌≡◌, take, false}
use Rattle.mpfa_fill.specs.Closings.{is_closed}
use Rattle.mpfa_fill.proofs.closings.is_among.Given as goal

-- the closings before are of other links
abbrev pub invariant-loop-closing : goal.invariant-loop-closing
invariant-loop-closing l = is_closed (take l.closing-index l.closings) l.link ≡ false
