-- The nodes of a spec in the order of their numbers.
pub use Rattle.tree_spec.specs.Childless.{job_childless, user_childless, cluster_childless, IsCounted, clusters_of, AreFirstsOf, idle_tree}
