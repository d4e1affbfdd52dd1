use Rattle.std.proofs.Common.{◌≡◌, take, false}
use Rattle.std.specs.List.{list_any}
use Rattle.mpfa_fill.specs.Closings.{is_closed}
use Rattle.mpfa_fill.proofs.standing.uses_closed.Given as goal

-- the links of the parts before were not closed
abbrev pub invariant-loop-part : goal.invariant-loop-part
invariant-loop-part l = list_any (λ part. is_closed l.closings part.link) (take l.part-index l.part-items) ≡ false
