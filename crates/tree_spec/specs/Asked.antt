-- What a tree is built of, and the tree that nobody has asked anything of.
use Rattle.std.specs.Prelude.{◌≡◌, ℕ, ◌≤◌, List, length, map, Option, Some, None, All, sum_by}
use Rattle.bwe_specs.specs.declared.limits.TheConstants.{MAX_WEIGHT}
use Rattle.bw_function.specs.BwFunction.{Function}
use Rattle.tree_spec.specs.Tasks.{without_demand}
use Rattle.tree_spec.specs.declared.spec.JobSpec.{JobSpec}
use Rattle.tree_spec.specs.declared.spec.UserSpec.{UserSpec}
use Rattle.tree_spec.specs.declared.spec.ClusterSpec.{ClusterSpec}
use Rattle.tree_spec.specs.States.{JobState, UserState, ClusterState}

-- the node of a spec, with every demand 0
abbrev pub idle_job : JobSpec → JobState
idle_job spec =
    record {
      configured = spec.function;
      sum = record { function = spec.task; tasks = map without_demand spec.weights.items };
    }

abbrev pub idle_user : UserSpec → UserState
idle_user spec = record { configured = spec.function; jobs = map idle_job spec.jobs.items }

abbrev pub idle_cluster : ClusterSpec → ClusterState
idle_cluster spec = record { configured = spec.function; users = map idle_user spec.users.items }

-- how many tasks the spec of a node has
abbrev pub job_weights : JobSpec → ℕ
job_weights spec = length spec.weights.items

abbrev pub user_weights : UserSpec → ℕ
user_weights spec = sum_by job_weights spec.jobs.items

abbrev pub cluster_weights : ClusterSpec → ℕ
cluster_weights spec = sum_by user_weights spec.users.items

-- weights of tasks, in range
abbrev pub AreWeights : List ℕ → Type 0
AreWeights weights = All (λ weight. (1 ≤ weight) × (weight ≤ MAX_WEIGHT)) weights

abbrev pub HasJobWeights : JobSpec → Type 0
HasJobWeights spec = AreWeights spec.weights.items

abbrev pub HasUserWeights : UserSpec → Type 0
HasUserWeights spec = All HasJobWeights spec.jobs.items

abbrev pub HasClusterWeights : ClusterSpec → Type 0
HasClusterWeights spec = All HasUserWeights spec.users.items

-- the functions of a spec have the top
abbrev pub HasTop : ℕ → Option Function → Type 0
HasTop top None = Unit {0}
HasTop top (Some function) = function.top ≡ top

pub record HasJobTop (top : ℕ) (spec : JobSpec) : Type 0 where
  pub configured : HasTop top spec.function
  pub task : spec.task.top ≡ top

pub record HasUserTop (top : ℕ) (spec : UserSpec) : Type 0 where
  pub configured : HasTop top spec.function
  pub jobs : All (HasJobTop top) spec.jobs.items

pub record HasClusterTop (top : ℕ) (spec : ClusterSpec) : Type 0 where
  pub configured : HasTop top spec.function
  pub users : All (HasUserTop top) spec.users.items
