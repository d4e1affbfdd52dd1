use Rattle.link_solver.proofs.links.solve_by_links.Given as goal

abbrev pub ghosts-counted_by_links-L-Ledger : goal.ghosts-counted_by_links-L-Ledger
ghosts-counted_by_links-L-Ledger g a = record { name = a.looks.name; parts = a.looks.parts }

abbrev pub ghosts-counted_by_links-T-Ledger : goal.ghosts-counted_by_links-T-Ledger
ghosts-counted_by_links-T-Ledger g a = record { name = a.turns.name; parts = a.turns.parts }

abbrev pub ghosts-counted_by_links-P-Ledger : goal.ghosts-counted_by_links-P-Ledger
ghosts-counted_by_links-P-Ledger g a = record { name = a.plays.name; parts = a.plays.parts }

abbrev pub ghosts-counted_by_links-M-Ledger : goal.ghosts-counted_by_links-M-Ledger
ghosts-counted_by_links-M-Ledger g a = record { name = a.moves.name; parts = a.moves.parts }
