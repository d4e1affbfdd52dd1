-- What contracts see of a tree.
use Rattle.std.specs.Prelude.{◌≡◌, ℕ, ◌≤◌, List, length, map, flat_map, slice_index, slice_set, All}
use Rattle.std.specs.List.{range_with_len}
use Rattle.bwe_specs.specs.declared.limits.TheConstants.{MAX_SHARE, MAX_AMOUNT, MAX_TASKS}
use Rattle.bwe_specs.specs.Tree.{Job, User, Cluster, group_value}
use Rattle.bwe_specs.specs.TreeFunctions.{AreClusters}
use Rattle.tree_spec.specs.States.{ClusterState}
use Rattle.tree_spec.specs.Numbering.{numbered_clusters, demands_of}

-- the top share, a cluster for each group, and each task's demand by its number
pub record Tree : Type 0 where
  pub top : ℕ
  pub clusters : List Cluster
  pub demands : List ℕ

-- the demand of a task; one that the tree does not have asks for nothing
abbrev pub demand_in : Tree → ℕ → ℕ
demand_in tree task = slice_index tree.demands task

-- the groups' values under these demands
abbrev pub value_in : Tree → ℕ → ℕ → ℕ
value_in tree group share = group_value tree.top (demand_in tree) tree.clusters group share

-- the tree with another demand of one task
abbrev pub asking : Tree → ℕ → ℕ → Tree
asking tree task demand = record tree { demands = slice_set tree.demands task demand }

-- the numbers of a node's tasks, in the order of the walk
abbrev pub job_numbers : Job → List ℕ
job_numbers job = map (λ task. task.number) job.tasks

abbrev pub user_numbers : User → List ℕ
user_numbers user = flat_map job_numbers user.jobs

abbrev pub cluster_numbers : Cluster → List ℕ
cluster_numbers cluster = flat_map user_numbers cluster.users

abbrev pub task_numbers : List Cluster → List ℕ
task_numbers clusters = flat_map cluster_numbers clusters

-- the tree that the nodes are
abbrev pub tree_of : ℕ → List ClusterState → Tree
tree_of top clusters =
    record { top = top; clusters = numbered_clusters clusters; demands = demands_of clusters }

-- what is true of every tree: its functions are functions up to its top, its tasks are numbered
-- from 0 in one walk, and its numbers are in range
pub record IsTree (tree : Tree) : Type 0 where
  pub low : 1 ≤ tree.top
  pub high : tree.top ≤ MAX_SHARE
  pub functions : AreClusters tree.top tree.clusters
  pub numbers : task_numbers tree.clusters ≡ range_with_len 0 (length tree.demands)
  pub few : length tree.demands ≤ MAX_TASKS
  pub demands : All (λ demand. demand ≤ MAX_AMOUNT) tree.demands
