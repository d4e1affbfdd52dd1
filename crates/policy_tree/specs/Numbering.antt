-- The states of the nodes as the clusters of the definitions. A proof that unfolds `numbered` has it
-- from `tree_spec`.
pub use Rattle.tree_spec.specs.Numbering.{numbered, points_by, numbered_task, numbered_tasks, numbered_job, numbered_jobs, numbered_user, numbered_users, numbered_cluster, numbered_clusters, job_demands, user_demands, cluster_demands, demands_of}
