use Rattle.network_cases.proofs.tests.fillings.solved_from.Given as goal

abbrev pub ghosts-solved : goal.ghosts-solved
ghosts-solved a = record { name = a.blank.name; parts = a.blank.parts }
