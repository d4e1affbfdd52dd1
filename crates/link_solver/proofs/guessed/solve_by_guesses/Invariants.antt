use Rattle.link_solver.proofs.guessed.solve_by_guesses.Given as goal

abbrev pub ghosts-counted_by_guesses-L-Ledger : goal.ghosts-counted_by_guesses-L-Ledger
ghosts-counted_by_guesses-L-Ledger g a = record { name = a.looks.name; parts = a.looks.parts }

abbrev pub ghosts-counted_by_guesses-T-Ledger : goal.ghosts-counted_by_guesses-T-Ledger
ghosts-counted_by_guesses-T-Ledger g a = record { name = a.turns.name; parts = a.turns.parts }

abbrev pub ghosts-counted_by_guesses-P-Ledger : goal.ghosts-counted_by_guesses-P-Ledger
ghosts-counted_by_guesses-P-Ledger g a = record { name = a.plays.name; parts = a.plays.parts }

abbrev pub ghosts-counted_by_guesses-M-Ledger : goal.ghosts-counted_by_guesses-M-Ledger
ghosts-counted_by_guesses-M-Ledger g a = record { name = a.moves.name; parts = a.moves.parts }
