-- What a tree is built of: the functions and the weights of a document, with every demand 0.
use Rattle.std.specs.Prelude.{ℕ, List, map, option_map}
use Rattle.bw_function.specs.BwFunction.{Function, points_of}
use Rattle.tree_spec.specs.Tasks.{without_demand}
use Rattle.tree_spec.specs.States.{JobState, UserState, ClusterState}
use Rattle.raw_document.specs.Raw.{Task, Job, User, Group}

abbrev pub function_part : ℕ → List (ℕ × ℕ) → Function
function_part top points = record { points = points_of points; top = top }

-- a job has one weight for each of its tasks
abbrev pub weights_of : Job → List ℕ
weights_of job = map (λ (task : Task). task.weight) job.tasks

abbrev pub job_part : ℕ → Job → JobState
job_part top job = record {
  configured = option_map (function_part top) job.function;
  sum = record {
    function = function_part top job.task;
    tasks = map without_demand (weights_of job);
  };
}

abbrev pub user_part : ℕ → User → UserState
user_part top user =
    record {
      configured = option_map (function_part top) user.function;
      jobs = map (job_part top) user.jobs;
    }

abbrev pub cluster_part : ℕ → Group → ClusterState
cluster_part top group =
    record {
      configured = option_map (function_part top) group.function;
      users = map (user_part top) group.users;
    }
