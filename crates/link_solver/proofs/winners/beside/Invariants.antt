use Rattle.std.proofs.Common.{◌*◌, ◌<◌, length}
use Rattle.link_solver.proofs.winners.beside.Given as goal

-- the node is one of the tree
abbrev pub invariant-loop-node : goal.invariant-loop-node
invariant-loop-node l = l.node < 2 * length l.dues

abbrev pub decreases-loop-node : goal.decreases-loop-node
decreases-loop-node l = l.node
