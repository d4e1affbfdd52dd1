use Rattle.policy_tree.specs.Trees.{value_in}
use Rattle.allocator.proofs.table.filling_of.Given as goal

abbrev pub ghosts-fill_kept_by_looks : goal.ghosts-fill_kept_by_looks
ghosts-fill_kept_by_looks g a = record { value = value_in a.values.now.tree.now }
