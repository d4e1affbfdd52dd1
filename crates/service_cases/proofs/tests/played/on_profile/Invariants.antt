use Rattle.service_cases.proofs.tests.played.on_profile.Given as goal

-- the bases that were just opened
abbrev pub ghosts-on_bases : goal.ghosts-on_bases
ghosts-on_bases g a = record { book = a.opened.book; table = a.opened.table }
