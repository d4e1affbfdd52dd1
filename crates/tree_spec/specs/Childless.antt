-- The nodes of a spec in the order of their numbers: which have no child, and how many tasks there
-- are.
use Rattle.std.specs.Prelude.{◌≡◌, ℕ, ◌+◌, Bool, List, [], ◌∷◌, length, flat_map, map, ◌==◌, Result, Ok, Err, Some, None, replicate, ◌<◌, sum_by, slice_index, take, Vec}
use Rattle.std.specs.Global.{Global}
use Rattle.std.specs.List.{position_from}
use Rattle.bwe_specs.specs.Tree.{Cluster}
use Rattle.tree_spec.specs.declared.fault.TreeFault.{TreeFault}
use Rattle.tree_spec.specs.declared.fault.TreeFault.TheVariants.{EmptyNode}
use Rattle.tree_spec.specs.declared.spec.JobSpec.{JobSpec}
use Rattle.tree_spec.specs.declared.spec.UserSpec.{UserSpec}
use Rattle.tree_spec.specs.declared.spec.ClusterSpec.{ClusterSpec}
use Rattle.tree_spec.specs.declared.spec.TreeSpec.{TreeSpec}
use Rattle.tree_spec.specs.Asked.{idle_cluster, cluster_weights}
use Rattle.tree_spec.specs.Numbering.{numbered_clusters}
use Rattle.tree_spec.specs.Trees.{Tree, task_numbers}

-- for each node whether it has no child
abbrev pub job_childless : JobSpec → List Bool
job_childless spec = (length spec.weights.items == 0) ∷ []

abbrev pub user_childless : UserSpec → List Bool
user_childless spec = (length spec.jobs.items == 0) ∷ flat_map job_childless spec.jobs.items

abbrev pub cluster_childless : ClusterSpec → List Bool
cluster_childless spec = (length spec.users.items == 0) ∷ flat_map user_childless spec.users.items

-- the number after the nodes that were looked at from a number on, or the first of them without
-- children
abbrev pub IsCounted : Result ℕ TreeFault → ℕ → List Bool → Type 0
IsCounted (Ok next) node childless = (next ≡ node + length childless)
    × (position_from (λ test. test) node childless ≡ None)
IsCounted (Err fault) node childless = (empty : ℕ) × (fault ≡ EmptyNode empty)
    × (position_from (λ test. test) node childless ≡ Some empty)

-- the clusters of specs: tasks are numbered from 0 in one walk
abbrev pub clusters_of : List ClusterSpec → List Cluster
clusters_of specs = numbered_clusters (map idle_cluster specs)

-- for each cluster how many tasks come before its first
pub record AreFirstsOf (clusters : List ClusterSpec) (firsts : Vec ℕ Global) : Type 0 where
  pub size : length firsts.items ≡ length clusters
  pub each : (group : ℕ) → group < length clusters
      → slice_index firsts.items group ≡ sum_by cluster_weights (take group clusters)

-- the tree of a spec, of which nobody has asked anything
abbrev pub idle_tree : TreeSpec → Tree
idle_tree spec = record {
  top = spec.top;
  clusters = clusters_of spec.clusters.items;
  demands = replicate (length (task_numbers (clusters_of spec.clusters.items))) 0;
}
