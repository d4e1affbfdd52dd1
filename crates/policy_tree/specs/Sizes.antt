-- How many nodes there are, with all under them.
use Rattle.std.specs.Prelude.{ℕ, ◌+◌, sum_by}
use Rattle.policy_tree.specs.States.{JobState, UserState, ClusterState}

-- how many nodes a node is with all under it
abbrev pub job_size : JobState → ℕ
job_size job = 1

abbrev pub user_size : UserState → ℕ
user_size user = 1 + sum_by job_size user.jobs

abbrev pub cluster_size : ClusterState → ℕ
cluster_size cluster = 1 + sum_by user_size cluster.users
