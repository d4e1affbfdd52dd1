-- The nodes of one group, and the clusters of all groups, as those see them who go down the tree.
use Rattle.std.specs.Prelude.{◌≡◌, ℕ, ◌+◌, ◌<◌, ◌≤◌, List, [], length, take, sum_by, None, slice_index, slice_index_or, All}
use Rattle.bwe_specs.specs.declared.limits.TheConstants.{MAX_TASKS}
use Rattle.bwe_specs.specs.Tree.{Cluster}
use Rattle.policy_tree.specs.States.{ClusterState, cluster_tasks}
use Rattle.policy_tree.specs.Numbering.{numbered_cluster, numbered_clusters, cluster_demands}
use Rattle.policy_tree.specs.Trees.{Tree, demand_in, task_numbers, tree_of}
use Rattle.policy_tree.specs.Kept.{HaveClusterTop}
use Rattle.policy_tree.specs.Walk.{walk}

-- from a number on, the demands are these
pub record Agrees (demand : ℕ → ℕ) (first : ℕ) (demands : List ℕ) : Type 0 where
  pub at : (place : ℕ) → place < length demands → demand (first + place) ≡ slice_index demands place

-- the cluster of a group; a group that the tree does not have has no user
abbrev pub cluster_in : Tree → ℕ → Cluster
cluster_in tree group =
    slice_index_or tree.clusters group (record { configured = None; users = [] })

-- the number of a group's first task: as many tasks come before
abbrev pub first_in : Tree → ℕ → ℕ
first_in tree group = length (task_numbers (take group tree.clusters))

-- the node is the group's cluster: with the numbers from its first task on it is that cluster, and
-- its demands are the tree's
pub record IsClusterOf (tree : Tree) (group : ℕ) (node : ClusterState) : Type 0 where
  pub cluster : cluster_in tree group ≡ numbered_cluster (first_in tree group) node
  pub demands : Agrees (demand_in tree) (first_in tree group) (cluster_demands node)
  pub tops : HaveClusterTop tree.top node

-- the nodes are the clusters of all groups, in the order of the groups: the tree is what they make
pub record AreClustersOf (tree : Tree) (clusters : List ClusterState) : Type 0 where
  pub made : tree_of tree.top clusters ≡ tree
  pub tops : All (HaveClusterTop tree.top) clusters
  pub few : sum_by cluster_tasks clusters ≤ MAX_TASKS
  pub nodes : length (walk (numbered_clusters clusters)) < 4_294_967_296
