-- What a group may have is what its cluster may have.
use Rattle.std.proofs.Common.{◌≡◌, ℕ, ◌∙◌, ap}
use Rattle.bwe_specs.specs.Tree.{Cluster, cluster_value}
use Rattle.policy_tree.specs.States.{ClusterState, cluster_meaning}
use Rattle.policy_tree.specs.Nodes.{first_in, IsClusterOf}
use Rattle.policy_tree.specs.Trees.{Tree, demand_in, value_in}
use Rattle.policy_tree.proofs.Agreement.{cluster-agrees}

pub group-values : (tree : Tree) (group : ℕ) (node : ClusterState) → IsClusterOf tree group node → value_in tree group ≡ cluster_meaning node
group-values tree group node is =
    ap (λ (cluster : Cluster). cluster_value tree.top (demand_in tree) cluster) is.cluster
    ∙ cluster-agrees tree.top (demand_in tree) (first_in tree group) node is.tops is.demands

pub group-value : (tree : Tree) (group : ℕ) (node : ClusterState) → IsClusterOf tree group node → (share : ℕ) → value_in tree group share ≡ cluster_meaning node share
group-value tree group node is share =
    ap (λ (value : ℕ → ℕ). value share) (group-values tree group node is)
