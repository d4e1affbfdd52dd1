use Rattle.std.proofs.Common.{ℕ, ◌+◌, ◌*◌, ◌-◌, ◌^◌, ◌≤◌, length, take}
use Rattle.bwe_specs.specs.Paths.{path_group_at}
use Rattle.mpfa_fill.specs.Growth.{wan_in, added_in}
use Rattle.link_solver.proofs.Marking.{CameSoFar}
use Rattle.link_solver.proofs.due.come.Given as goal

-- the group came to the links of the parts before, each with one climb of the tournament
abbrev pub invariant-loop-part : goal.invariant-loop-part
invariant-loop-part g l = record {
  came : CameSoFar (path_group_at l.growth.plan.now l.group l.place) (added_in l.growth l.group l.place) (λ share. (wan_in g.V.GroupValues.meaning l.growth).value l.group share - l.value)
      l.growth.topology.now.capacities l.share (take l.part-index l.part-items) l.initial.dues l.dues;
  plays : (levels : ℕ) → length l.initial.dues ≤ 2 ^ levels → l.plays ≤ l.initial.plays + levels * length (take l.part-index l.part-items);
}
