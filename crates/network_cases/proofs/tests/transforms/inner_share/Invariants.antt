use Rattle.network_cases.proofs.tests.transforms.inner_share.Given as goal

abbrev pub ghosts-counted_inner_share : goal.ghosts-counted_inner_share
ghosts-counted_inner_share g a = record { name = a.blank.name; parts = a.blank.parts }
