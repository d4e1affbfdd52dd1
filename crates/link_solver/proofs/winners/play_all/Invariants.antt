use Rattle.link_solver.proofs.Tournaments.{ArePlayed}
use Rattle.link_solver.proofs.winners.play_all.Given as goal

-- the nodes from here on have been played
abbrev pub invariant-loop-node : goal.invariant-loop-node
invariant-loop-node l = ArePlayed l.dues l.best l.node
