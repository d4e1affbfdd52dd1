use Rattle.policy_tree.proofs.value.look_at.Given as goal

abbrev pub ghosts-look_by_parent : goal.ghosts-look_by_parent
ghosts-look_by_parent g a = record { name = a.blank.name; parts = a.blank.parts }
