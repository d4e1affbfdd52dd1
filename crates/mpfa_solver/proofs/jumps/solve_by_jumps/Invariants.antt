use Rattle.mpfa_solver.proofs.jumps.solve_by_jumps.Given as goal

abbrev pub ghosts-counted_by_jumps : goal.ghosts-counted_by_jumps
ghosts-counted_by_jumps g a = record { name = a.blank.name; parts = a.blank.parts }
