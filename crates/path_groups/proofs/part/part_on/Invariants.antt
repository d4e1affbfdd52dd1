use Rattle.std.proofs.Common.{◌≡◌, false, take}
use Rattle.path_groups.specs.Parts.{has_part}
use Rattle.path_groups.proofs.part.part_on.Given as goal

-- no part before is the link's
abbrev pub invariant-loop-part : goal.invariant-loop-part
invariant-loop-part l = has_part (take l.part-index l.parts) l.link ≡ false
