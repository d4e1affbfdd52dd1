-- The values of the groups of a tree.
use Rattle.std.specs.Prelude.{length}
use Rattle.mpfa_fill.specs.GroupValues.{Values}
use Rattle.policy_tree.specs.Trees.{Tree, value_in}

-- each group's value under the demands of the tree
abbrev pub values_of : Tree → Values
values_of tree = record { groups = length tree.clusters; top = tree.top; value = value_in tree }
