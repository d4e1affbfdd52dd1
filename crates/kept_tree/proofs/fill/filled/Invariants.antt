use Rattle.policy_tree.specs.Trees.{value_in}
use Rattle.kept_tree.proofs.fill.filled.Given as goal

abbrev pub ghosts-filled_by : goal.ghosts-filled_by
ghosts-filled_by a = record { value = value_in a.tree.now }
