-- A changed demand leaves a node one of a tree.
use Rattle.std.proofs.Common.{◌≡◌, ℕ, zero, suc, ◌<◌, ◌≤◌, List, [], ◌∷◌, length, get_or, set, sum_by, refl, arith}
use Rattle.std.proofs.lemmas.List.{length-set}
use Rattle.std.proofs.lemmas.List.Sums.{sum_by-cons}
use Rattle.std.proofs.lemmas.List.Elements.{All-set, All-get_or}
use Rattle.tree_spec.specs.Tasks.{IsInRange}
use Rattle.policy_tree.specs.States.{JobState, UserState, ClusterState, job_tasks, user_tasks, cluster_tasks, IsJobState, IsUserState, IsClusterState}
use Rattle.policy_tree.specs.Changes.{job_at, user_at, job_with, user_with, cluster_with}

-- one of as many leaves the sum
pub sum_by-set_same : {X : Type 0} (size : X → ℕ) (xs : List X) (place : ℕ) (x d : X) → size x ≡ size (get_or xs place d) → sum_by size (set xs place x) ≡ sum_by size xs
sum_by-set_same size [] place x d same = refl
sum_by-set_same size (y ∷ ys) zero x d same = omega (arith, sum_by-cons size x ys, sum_by-cons size y ys, same)
sum_by-set_same size (y ∷ ys) (suc place) x d same = omega (arith, sum_by-cons size y (set ys place x), sum_by-cons size y ys, sum_by-set_same size ys place x d same)

pub job_tasks-with : (job : JobState) (task demand : ℕ) → job_tasks (job_with job task demand) ≡ job_tasks job
job_tasks-with job task demand = length-set job.sum.tasks task _

pub job_with-is : (job : JobState) (task demand : ℕ) → IsJobState job → task < job_tasks job → demand ≤ 1_000_000_000_000 → IsJobState (job_with job task demand)
job_with-is job task demand is lt few =
    let held = All-get_or IsInRange job.sum.tasks task (record { weight = 0; demand = 0 }) lt is.small.each in
    record {
      configured = is.configured;
      function = is.function;
      small = record {
        few = omega (arith, job_tasks-with job task demand, is.small.few);
        each = All-set IsInRange job.sum.tasks task _ (record { low = held.low; weight = held.weight; demand = few }) is.small.each;
      };
    }

pub user_tasks-with : (user : UserState) (job task demand : ℕ) → user_tasks (user_with user job task demand) ≡ user_tasks user
user_tasks-with user job task demand = sum_by-set_same job_tasks user.jobs job _ _ (job_tasks-with (job_at user.jobs job) task demand)

pub user_with-is : (user : UserState) (job task demand : ℕ) → IsUserState user → job < length user.jobs → task < job_tasks (job_at user.jobs job) → demand ≤ 1_000_000_000_000
    → IsUserState (user_with user job task demand)
user_with-is user job task demand is within lt few = record {
  configured = is.configured;
  jobs = All-set IsJobState user.jobs job _ (job_with-is (job_at user.jobs job) task demand (All-get_or IsJobState user.jobs job _ within is.jobs) lt few) is.jobs;
  few = omega (arith, user_tasks-with user job task demand, is.few);
}

pub cluster_tasks-with : (cluster : ClusterState) (user job task demand : ℕ) → cluster_tasks (cluster_with cluster user job task demand) ≡ cluster_tasks cluster
cluster_tasks-with cluster user job task demand = sum_by-set_same user_tasks cluster.users user _ _ (user_tasks-with (user_at cluster.users user) job task demand)

pub cluster_with-is : (cluster : ClusterState) (user job task demand : ℕ) → IsClusterState cluster → user < length cluster.users
    → job < length (user_at cluster.users user).jobs → task < job_tasks (job_at (user_at cluster.users user).jobs job) → demand ≤ 1_000_000_000_000
    → IsClusterState (cluster_with cluster user job task demand)
cluster_with-is cluster user job task demand is within within_user lt few = record {
  configured = is.configured;
  users = All-set IsUserState cluster.users user _ (user_with-is (user_at cluster.users user) job task demand (All-get_or IsUserState cluster.users user _ within is.users) within_user lt few) is.users;
  few = omega (arith, cluster_tasks-with cluster user job task demand, is.few);
}
