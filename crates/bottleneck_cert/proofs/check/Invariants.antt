use Rattle.bottleneck_cert.proofs.check.Given as goal

abbrev pub ghosts-counted_check : goal.ghosts-counted_check
ghosts-counted_check g a = record { name = a.blank.name; parts = a.blank.parts }
