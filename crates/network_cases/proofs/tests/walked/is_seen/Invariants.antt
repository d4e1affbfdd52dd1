use Rattle.network_cases.proofs.tests.walked.is_seen.Given as goal

abbrev pub ghosts-seen : goal.ghosts-seen
ghosts-seen a = record { name = a.blank.name; parts = a.blank.parts }
