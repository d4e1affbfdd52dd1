use Rattle.std.proofs.Common.{◌≡◌, ℕ, ◌<◌, length}
use Rattle.link_front.specs.Front.{wan_in, value_at}
use Rattle.link_solver.proofs.links.values_at.Given as goal

-- of the groups so far the values are known
abbrev pub invariant-loop-group : goal.invariant-loop-group
invariant-loop-group g l = record {
  each_group : length l.known.items ≡ l.group;
  each : (group : ℕ) → group < l.group → (value_at l.known.items group).value ≡ (wan_in g.V.GroupValues.meaning l.front).value group (value_at l.known.items group).share;
}
