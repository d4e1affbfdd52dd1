-- One demand of a node changes.
use Rattle.std.specs.Prelude.{ℕ, List, [], None, slice_index_or, slice_set}
use Rattle.tree_spec.specs.Tasks.{with_demand}
use Rattle.policy_tree.specs.States.{JobState, UserState, ClusterState}

-- a node by its place among its siblings, or one of no tasks
abbrev pub job_at : List JobState → ℕ → JobState
job_at jobs place =
    slice_index_or jobs place
    (record {
      configured = None;
      sum = record { function = record { points = []; top = 0 }; tasks = [] };
    })

abbrev pub user_at : List UserState → ℕ → UserState
user_at users place = slice_index_or users place (record { configured = None; jobs = [] })

abbrev pub cluster_at : List ClusterState → ℕ → ClusterState
cluster_at clusters place = slice_index_or clusters place (record { configured = None; users = [] })

-- the demand of one task changes
abbrev pub job_with : JobState → ℕ → ℕ → JobState
job_with job task demand = record job { sum = with_demand job.sum task demand }

abbrev pub user_with : UserState → ℕ → ℕ → ℕ → UserState
user_with user job task demand =
    record user { jobs = slice_set user.jobs job (job_with (job_at user.jobs job) task demand) }

abbrev pub cluster_with : ClusterState → ℕ → ℕ → ℕ → ℕ → ClusterState
cluster_with cluster user job task demand =
    record cluster {
      users = slice_set cluster.users user (user_with (user_at cluster.users user) job task demand);
    }
