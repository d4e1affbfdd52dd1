-- What a tree is built of, and the tree that nobody has asked anything of.
pub use Rattle.tree_spec.specs.Asked.{idle_job, idle_user, idle_cluster, job_weights, user_weights, cluster_weights, AreWeights, HasJobWeights, HasUserWeights, HasClusterWeights, HasTop, HasJobTop, HasUserTop, HasClusterTop}
