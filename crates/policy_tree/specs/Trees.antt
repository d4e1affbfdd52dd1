-- What contracts see of a tree.
pub use Rattle.tree_spec.specs.Trees.{Tree, demand_in, value_in, asking, job_numbers, user_numbers, cluster_numbers, task_numbers, tree_of, IsTree}
