-- How many nodes there are: no fewer than items of a list, where each is one with others under it.
use Rattle.std.proofs.Common.{◌≡◌, ℕ, ◌+◌, ◌<◌, ◌≤◌, List, [], ◌∷◌, length, get_or, flat_map, sum_by, refl, arith}
use Rattle.std.proofs.lemmas.List.{length-append}
use Rattle.std.proofs.lemmas.List.Sums.{sum_by-cons, sum_by_more_le}
use Rattle.policy_tree.specs.States.{JobState, UserState, ClusterState, job_tasks, user_tasks, cluster_tasks}
use Rattle.tree_spec.specs.Numbering.{numbered}
use Rattle.policy_tree.specs.Numbering.{numbered_job, numbered_user, numbered_cluster, numbered_clusters}
use Rattle.policy_tree.specs.Walk.{Node, job_nodes, user_nodes, cluster_nodes, walk}
use Rattle.policy_tree.specs.Sizes.{job_size, user_size, cluster_size}

length-nodes : {X Y : Type 0} (tasks : X → ℕ) (item : ℕ → X → Y) (nodes : Y → List Node) (size : X → ℕ) → ((first : ℕ) (x : X) → length (nodes (item first x)) ≡ size x)
    → (first : ℕ) (xs : List X) → length (flat_map nodes (numbered tasks item first xs)) ≡ sum_by size xs
unfolding numbered
length-nodes tasks item nodes size same first [] = refl
length-nodes tasks item nodes size same first (x ∷ xs) =
    omega (
      arith,
      length-append (nodes (item first x)) (flat_map nodes (numbered tasks item (first + tasks x) xs)),
      same first x,
      sum_by-cons size x xs,
      length-nodes tasks item nodes size same (first + tasks x) xs,
    )

pub job-size : (first : ℕ) (job : JobState) → length (job_nodes (numbered_job first job)) ≡ job_size job
job-size first job = refl

pub user-size : (first : ℕ) (user : UserState) → length (user_nodes (numbered_user first user)) ≡ user_size user
user-size first user = omega (arith, length-nodes job_tasks numbered_job job_nodes job_size job-size first user.jobs)

cluster-size : (first : ℕ) (cluster : ClusterState) → length (cluster_nodes (numbered_cluster first cluster)) ≡ cluster_size cluster
cluster-size first cluster = omega (arith, length-nodes user_tasks numbered_user user_nodes user_size user-size first cluster.users)

pub walk-size : (clusters : List ClusterState) → length (walk (numbered_clusters clusters)) ≡ sum_by cluster_size clusters
walk-size clusters = length-nodes cluster_tasks numbered_cluster cluster_nodes cluster_size cluster-size 0 clusters

-- no more items than nodes, where each item is one with others under it
pub length-within : {X : Type 0} (size : X → ℕ) → ((x : X) → 1 ≤ size x) → (xs : List X) → length xs ≤ sum_by size xs
length-within size some [] = omega arith
length-within size some (x ∷ xs) = omega (arith, some x, sum_by-cons size x xs, length-within size some xs)

-- so a place among nodes is below the number of all nodes
pub clusters-within : (clusters : List ClusterState) → length clusters ≤ sum_by cluster_size clusters
clusters-within clusters = length-within cluster_size (λ cluster. omega arith) clusters

pub users-within : (clusters : List ClusterState) (place : ℕ) (d : ClusterState) → place < length clusters → length (get_or clusters place d).users ≤ sum_by cluster_size clusters
users-within clusters place d lt =
    omega (arith, length-within user_size (λ user. omega arith) (get_or clusters place d).users, sum_by_more_le cluster_size clusters place d lt)

pub jobs-within : (clusters : List ClusterState) (place : ℕ) (d : ClusterState) (user : ℕ) (e : UserState) → place < length clusters → user < length (get_or clusters place d).users
    → length (get_or (get_or clusters place d).users user e).jobs ≤ sum_by cluster_size clusters
jobs-within clusters place d user e lt lt_user =
    let users = (get_or clusters place d).users in
    omega (arith, length-within job_size (λ job. omega arith) (get_or users user e).jobs, sum_by_more_le user_size users user e lt_user, sum_by_more_le cluster_size clusters place d lt)
