-- The numbers of the children of each node.
use Rattle.std.specs.Prelude.{ℕ, ◌+◌, List, [], ◌∷◌, ◌++◌, length, map}
use Rattle.policy_tree.specs.States.{JobState, UserState, ClusterState}
use Rattle.policy_tree.specs.Numbering.{numbered_job, numbered_user, numbered_cluster}
use Rattle.policy_tree.specs.Trees.{job_numbers}
use Rattle.policy_tree.specs.Walk.{Node, OfCluster, OfUser, OfJob, job_nodes, user_nodes, cluster_nodes}

-- the numbers of nodes, of which each has so many nodes with it: the next one comes after those
unfoldable pub numbers_from : ℕ → List ℕ → List ℕ
numbers_from first [] = []
numbers_from first (size ∷ sizes) = first ∷ numbers_from (first + size) sizes

-- the children of a node with the number: nodes, or the tasks of a job
abbrev pub child_numbers : ℕ → Node → List ℕ
child_numbers node (OfCluster cluster) =
    numbers_from (node + 1) (map (λ user. length (user_nodes user)) cluster.users)
child_numbers node (OfUser user) =
    numbers_from (node + 1) (map (λ job. length (job_nodes job)) user.jobs)
child_numbers node (OfJob job) = job_numbers job

-- the children of each of the nodes, which are numbered from a number on
unfoldable pub child_lists : ℕ → List Node → List (List ℕ)
child_lists first [] = []
child_lists first (node ∷ nodes) = child_numbers first node ∷ child_lists (first + 1) nodes

-- these nodes, where the first task under them has the number
abbrev pub nodes_of_job : JobState → ℕ → List Node
nodes_of_job job first = job_nodes (numbered_job first job)

abbrev pub nodes_of_user : UserState → ℕ → List Node
nodes_of_user user first = user_nodes (numbered_user first user)

abbrev pub nodes_of_cluster : ClusterState → ℕ → List Node
nodes_of_cluster cluster first = cluster_nodes (numbered_cluster first cluster)

-- the nodes of each of a list, one after the other
unfoldable pub all_nodes : {X : Type 0} → (X → ℕ) → (X → ℕ → List Node) → ℕ → List X → List Node
all_nodes tasks nodes first [] = []
all_nodes tasks nodes first (x ∷ xs) = nodes x first ++ all_nodes tasks nodes (first + tasks x) xs
