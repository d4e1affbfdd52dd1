-- The nodes of a tree in the order of their numbers, and what is wrong with a tree.
use Rattle.std.specs.Prelude.{◌≡◌, ℕ, Bool, List, [], ◌∷◌, length, flat_map, ◌==◌, nat_lt, if◌then◌else◌, Option, Some, None, position}
use Rattle.bwe_specs.specs.Tree.{Job, User, Cluster}
use Rattle.tree_spec.specs.declared.fault.TreeFault.{TreeFault}
use Rattle.tree_spec.specs.declared.fault.TreeFault.TheVariants.{EmptyNode, TooManyTasks}
use Rattle.tree_spec.specs.declared.fault.TreeError.{TreeError}
use Rattle.tree_spec.specs.declared.fault.TreeError.TheVariants.{Refused, OutOfMemory}
use Rattle.tree_spec.specs.Trees.{task_numbers}

pub data Node : Type 0 where
  OfCluster : (cluster : Cluster) → Node
  OfUser : (user : User) → Node
  OfJob : (job : Job) → Node

-- a job alone
abbrev pub job_nodes : Job → List Node
job_nodes job = OfJob job ∷ []

-- a user, and then its jobs
abbrev pub user_nodes : User → List Node
user_nodes user = OfUser user ∷ flat_map job_nodes user.jobs

-- a cluster, and then each user with its jobs
abbrev pub cluster_nodes : Cluster → List Node
cluster_nodes cluster = OfCluster cluster ∷ flat_map user_nodes cluster.users

-- all nodes in the order of their numbers
abbrev pub walk : List Cluster → List Node
walk clusters = flat_map cluster_nodes clusters

-- the node has no child
abbrev pub is_childless : Node → Bool
is_childless (OfCluster cluster) = length cluster.users == 0
is_childless (OfUser user) = length user.jobs == 0
is_childless (OfJob job) = length job.tasks == 0

-- the fault, by the lowest node without children and the number of tasks
abbrev pub fault_by : Option ℕ → ℕ → Option TreeFault
fault_by (Some node) count = Some (EmptyNode node)
fault_by None count = if nat_lt 1_048_576 count then Some (TooManyTasks count) else None

-- what is wrong with a tree of these clusters: a node without children comes before too many tasks
abbrev pub tree_fault : List Cluster → Option TreeFault
tree_fault clusters =
    fault_by (position is_childless (walk clusters)) (length (task_numbers clusters))

-- the error names this fault, or says that memory ran out
abbrev pub TellsFault : Option TreeFault → TreeError → Type 0
TellsFault fault (Refused told) = fault ≡ Some told
TellsFault fault OutOfMemory = Unit {0}
