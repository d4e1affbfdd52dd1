-- What a tree keeps beside its nodes: where each task is, and where each group's tasks begin.
use Rattle.std.specs.Prelude.{◌≡◌, ℕ, ◌+◌, ◌<◌, ◌≤◌, List, [], length, map, take, sum, sum_by, slice_index, slice_index_or, All}
use Rattle.bwe_specs.specs.declared.limits.TheConstants.{MAX_SHARE, MAX_TASKS}
use Rattle.policy_tree.specs.declared.home.Home.{Home}
use Rattle.policy_tree.specs.States.{JobState, UserState, ClusterState, job_tasks, cluster_tasks, IsClusterState}
use Rattle.policy_tree.specs.Asked.{HasTop}
use Rattle.policy_tree.specs.Numbering.{numbered_clusters}
use Rattle.policy_tree.specs.Walk.{walk}

-- how many tasks each job has
abbrev pub user_counts : UserState → List ℕ
user_counts user = map job_tasks user.jobs

abbrev pub cluster_counts : ClusterState → List (List ℕ)
cluster_counts cluster = map user_counts cluster.users

abbrev pub counts_of : List ClusterState → List (List (List ℕ))
counts_of clusters = map cluster_counts clusters

-- how many tasks a user, a cluster and all clusters have
abbrev pub users_count : List (List ℕ) → ℕ
users_count users = sum_by (λ jobs. sum jobs) users

abbrev pub clusters_count : List (List (List ℕ)) → ℕ
clusters_count clusters = sum_by users_count clusters

-- the task with the number is at home there
pub record IsHome (clusters : List (List (List ℕ))) (number : ℕ) (home : Home) : Type 0 where
  pub cluster : home.cluster < length clusters
  pub user : home.user < length (slice_index_or clusters home.cluster [])
  pub job : home.job
      < length (slice_index_or (slice_index_or clusters home.cluster []) home.user [])
  pub task : home.task
      < slice_index (slice_index_or (slice_index_or clusters home.cluster []) home.user []) home.job
  pub counted : number ≡ clusters_count (take home.cluster clusters)
      + (users_count (take home.user (slice_index_or clusters home.cluster []))
      + (sum (take home.job (slice_index_or (slice_index_or clusters home.cluster []) home.user []))
      + home.task))

pub record AreHomes (clusters : List (List (List ℕ))) (homes : List Home) : Type 0 where
  pub size : length homes ≡ clusters_count clusters
  pub each : (number : ℕ) (d : Home) → number < length homes
      → IsHome clusters number (slice_index_or homes number d)

-- for each cluster how many tasks come before its first
pub record AreFirsts (clusters : List (List (List ℕ))) (firsts : List ℕ) : Type 0 where
  pub size : length firsts ≡ length clusters
  pub each : (group : ℕ) → group < length clusters
      → slice_index firsts group ≡ clusters_count (take group clusters)

-- all functions of a node have the top
pub record HaveJobTop (top : ℕ) (job : JobState) : Type 0 where
  pub configured : HasTop top job.configured
  pub task : job.sum.function.top ≡ top

pub record HaveUserTop (top : ℕ) (user : UserState) : Type 0 where
  pub configured : HasTop top user.configured
  pub jobs : All (HaveJobTop top) user.jobs

pub record HaveClusterTop (top : ℕ) (cluster : ClusterState) : Type 0 where
  pub configured : HasTop top cluster.configured
  pub users : All (HaveUserTop top) cluster.users

-- the nodes of a tree, the homes of its tasks, and the first task of each group
pub record IsKeptTree (top : ℕ) (clusters : List ClusterState) (homes : List Home)
    (firsts : List ℕ) : Type 0 where
  pub low : 1 ≤ top
  pub high : top ≤ MAX_SHARE
  pub groups : length clusters < 4_294_967_296
  pub tops : All (HaveClusterTop top) clusters
  pub are : All IsClusterState clusters
  pub few : sum_by cluster_tasks clusters ≤ MAX_TASKS
  pub tasks : AreHomes (counts_of clusters) homes
  pub starts : AreFirsts (counts_of clusters) firsts
  pub nodes : length (walk (numbered_clusters clusters)) < 4_294_967_296
