use Rattle.network_cases.proofs.tests.transforms.look.Given as goal

abbrev pub ghosts-counted_look : goal.ghosts-counted_look
ghosts-counted_look g a = record { name = a.blank.name; parts = a.blank.parts }
