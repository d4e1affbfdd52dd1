use Rattle.std.proofs.Common.{◌-◌, take}
use Rattle.bwe_specs.specs.Paths.{path_group_at}
use Rattle.mpfa_fill.specs.Growth.{wan_in, added_in}
use Rattle.link_solver.proofs.Marking.{LeftSoFar}
use Rattle.link_solver.proofs.due.leave.Given as goal

-- the group left the links of the parts before
abbrev pub invariant-loop-part : goal.invariant-loop-part
invariant-loop-part g l =
    LeftSoFar (path_group_at l.growth.plan.now l.group l.place) (added_in l.growth l.group l.place) (λ share. (wan_in g.V.GroupValues.meaning l.growth).value l.group share - l.value)
    l.growth.topology.now.capacities (wan_in g.V.GroupValues.meaning l.growth).top (take l.part-index l.part-items) l.initial.dues l.dues
