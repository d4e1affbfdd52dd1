use Rattle.std.proofs.Common.{take}
use Rattle.bwe_specs.specs.Paths.{path_group_at}
use Rattle.link_sums.proofs.MovedLoads.{IsMoved}
use Rattle.link_sums.proofs.loads.move_loads.Given as goal

-- the loads of the links before have moved
abbrev pub invariant-loop-part : goal.invariant-loop-part
invariant-loop-part l = IsMoved (path_group_at l.plan l.group l.place) (take l.part-index l.part-items) l.before l.after l.initial.loads l.loads
