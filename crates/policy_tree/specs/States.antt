-- The nodes of a tree as the code keeps them. A proof that unfolds `transformed` has it from
-- `tree_spec`.
pub use Rattle.tree_spec.specs.States.{JobState, UserState, ClusterState, job_tasks, user_tasks, cluster_tasks, transformed, job_meaning, jobs_meaning, user_meaning, users_meaning, cluster_meaning, IsKeptFunction, IsJobState, IsUserState, IsClusterState}
