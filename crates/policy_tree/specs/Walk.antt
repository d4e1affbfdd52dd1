-- The nodes of a tree in the order of their numbers, and what is wrong with a tree.
pub use Rattle.tree_spec.specs.Walk.{Node, OfCluster, OfUser, OfJob, job_nodes, user_nodes, cluster_nodes, walk, is_childless, fault_by, tree_fault, TellsFault}
