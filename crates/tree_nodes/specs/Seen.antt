-- The nodes of a tree by their numbers: of which kind they are, and what they may have at each
-- share.
use Rattle.std.specs.Prelude.{◌≡◌, ℕ, ◌+◌, ◌<◌, List, [], ◌∷◌, length, flat_map, take, None, Result, Ok, Err, slice_index_or}
use Rattle.bwe_specs.specs.Tree.{job_value, user_value, cluster_value}
use Rattle.tree_nodes.specs.declared.kind.Kind.{Kind}
use Rattle.tree_nodes.specs.declared.kind.Kind.TheVariants as kinds
use Rattle.policy_tree.specs.States.{JobState, UserState, ClusterState, job_meaning, user_meaning, cluster_meaning}
use Rattle.policy_tree.specs.Trees.{Tree, demand_in}
use Rattle.policy_tree.specs.Walk.{Node, OfCluster, OfUser, OfJob, walk}

-- the node with the number; past the last one a job without tasks
abbrev pub node_in : Tree → ℕ → Node
node_in tree node =
    slice_index_or (walk tree.clusters) node
    (OfJob (record { configured = None; task = []; tasks = [] }))

-- the number of a group's cluster: as many nodes come before
abbrev pub group_node_in : Tree → ℕ → ℕ
group_node_in tree group = length (walk (take group tree.clusters))

abbrev pub kind_of : Node → Kind
kind_of (OfCluster cluster) = kinds.Cluster
kind_of (OfUser user) = kinds.User
kind_of (OfJob job) = kinds.Job

-- what a node of the tree may have at a share
abbrev pub value_of : Tree → Node → ℕ → ℕ
value_of tree (OfCluster cluster) = cluster_value tree.top (demand_in tree) cluster
value_of tree (OfUser user) = user_value tree.top (demand_in tree) user
value_of tree (OfJob job) = job_value tree.top (demand_in tree) job

-- a node as the code has it: its kind and its value at each share
pub record Seen : Type 0 where
  pub kind : Kind
  pub value : ℕ → ℕ

-- a node, and then all nodes under it
abbrev pub job_seen : JobState → List Seen
job_seen job = record { kind = kinds.Job; value = job_meaning job } ∷ []

abbrev pub user_seen : UserState → List Seen
user_seen user =
    record { kind = kinds.User; value = user_meaning user } ∷ flat_map job_seen user.jobs

abbrev pub cluster_seen : ClusterState → List Seen
cluster_seen cluster =
    record { kind = kinds.Cluster; value = cluster_meaning cluster }
    ∷ flat_map user_seen cluster.users

-- a node of a list by its place
abbrev pub seen_at : List Seen → ℕ → Seen
seen_at nodes place = slice_index_or nodes place (record { kind = kinds.Job; value = λ share. 0 })

-- the kind of the node at a place, or how far the place lies past the nodes
abbrev pub IsKindAt : Result Kind ℕ → ℕ → List Seen → Type 0
IsKindAt (Ok kind) place nodes = (place < length nodes) × (kind ≡ (seen_at nodes place).kind)
IsKindAt (Err past) place nodes = place ≡ length nodes + past

-- its value at a share, or how far
abbrev pub IsValueAt : ℕ → Result ℕ ℕ → ℕ → List Seen → Type 0
IsValueAt share (Ok value) place nodes = (place < length nodes)
    × (value ≡ (seen_at nodes place).value share)
IsValueAt share (Err past) place nodes = place ≡ length nodes + past
