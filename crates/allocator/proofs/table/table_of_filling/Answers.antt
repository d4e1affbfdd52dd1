use Rattle.allocator.proofs.table.table_of_filling.Goals as goal

pub returns : goal.returns
returns c = rw (c.tree-tree.ensures.same, c.topology-topology.ensures.same, c.prefix.ensures) at c.table_of_filling.ensures
