use Rattle.allocator.proofs.table.table_of_limits.Goals as goal

pub returns : goal.returns
returns c = rw (c.tree-tree.ensures.same, c.topology-topology.ensures.same, c.prefix-prefix.ensures) at c.table_of_limits.ensures
