use Rattle.crew.proofs.running.run_profiled.Given as goal

-- the bases that were just opened
abbrev pub ghosts-run_opened : goal.ghosts-run_opened
ghosts-run_opened g a = record { book = a.opened.book; table = a.opened.table }
