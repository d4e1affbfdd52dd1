use Rattle.std.proofs.Common.{ℕ, ◌+◌, ◌<◌, ◌≤◌, ◌^◌, length}
use Rattle.link_solver.specs.Tournament.{IsClimbed}
use Rattle.link_solver.proofs.Tournaments.{HasSteps}
use Rattle.link_solver.proofs.winners.climb.Given as goal

-- all nodes have been played but those from here to the root
abbrev pub invariant-loop-node : goal.invariant-loop-node
invariant-loop-node g l = record {
  climbed : IsClimbed l.dues l.best l.node;
  inner : l.node < length l.dues;
  ticks : (levels : ℕ) → length l.dues ≤ 2 ^ levels → HasSteps l.steps l.node (l.fn.steps + levels);
}

abbrev pub decreases-loop-node : goal.decreases-loop-node
decreases-loop-node g l = l.node
