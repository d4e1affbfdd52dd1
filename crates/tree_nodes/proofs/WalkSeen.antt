-- The nodes in the order of their numbers are those that the code goes through.
use Rattle.std.proofs.Common.{◌≡◌, ℕ, ◌+◌, ◌<◌, List, [], ◌∷◌, ◌++◌, length, map, flat_map, All, refl, sym, ◌∙◌, ap, ap₂, arith, subst}
use Rattle.std.proofs.lemmas.List.{length-map, map-append, get_or-map}
use Rattle.std.proofs.lemmas.List.Elements.{All-head, All-tail}
use Rattle.tree_nodes.specs.declared.kind.Kind.TheVariants as kinds
use Rattle.policy_tree.specs.States.{JobState, UserState, ClusterState, job_tasks, user_tasks, cluster_tasks}
use Rattle.tree_spec.specs.Numbering.{numbered}
use Rattle.policy_tree.specs.Numbering.{numbered_job, numbered_user, numbered_cluster, numbered_clusters, job_demands, user_demands, cluster_demands, demands_of}
use Rattle.policy_tree.specs.Kept.{HaveJobTop, HaveUserTop, HaveClusterTop}
use Rattle.policy_tree.specs.Nodes.{Agrees}
use Rattle.policy_tree.specs.Trees.{Tree, demand_in, tree_of}
use Rattle.policy_tree.specs.Walk.{Node, job_nodes, user_nodes, cluster_nodes, walk}
use Rattle.tree_nodes.specs.Seen.{Seen, node_in, kind_of, value_of, job_seen, user_seen, cluster_seen, seen_at}
use Rattle.policy_tree.proofs.Numbers.{agrees-left, agrees-right}
use Rattle.policy_tree.proofs.Agreement.{job-agrees, user-agrees, cluster-agrees, length-job_demands, length-user_demands, length-cluster_demands}

abbrev seen_of : Tree → Node → Seen
seen_of tree node = record { kind = kind_of node; value = value_of tree node }

walks-agree : {X Y : Type 0} (tasks : X → ℕ) (item : ℕ → X → Y) (demands : X → List ℕ) (nodes : Y → List Node) (seen : X → List Seen) (P : X → Type 0) (tree : Tree)
    → ((x : X) → length (demands x) ≡ tasks x)
    → ((first : ℕ) (x : X) → P x → Agrees (demand_in tree) first (demands x) → map (seen_of tree) (nodes (item first x)) ≡ seen x)
    → (first : ℕ) (xs : List X) → All P xs → Agrees (demand_in tree) first (flat_map demands xs)
    → map (seen_of tree) (flat_map nodes (numbered tasks item first xs)) ≡ flat_map seen xs
unfolding numbered
walks-agree tasks item demands nodes seen P tree size same first [] all agrees = refl
walks-agree tasks item demands nodes seen P tree size same first (x ∷ xs) all agrees =
    map-append (seen_of tree) (nodes (item first x)) (flat_map nodes (numbered tasks item (first + tasks x) xs))
    ∙ ap₂ (λ head rest. head ++ rest)
    (same first x (All-head P x xs all) (agrees-left (demand_in tree) first (demands x) (flat_map demands xs) agrees))
    (walks-agree tasks item demands nodes seen P tree size same (first + tasks x) xs (All-tail P x xs all)
    (subst (λ n. Agrees (demand_in tree) (first + n) (flat_map demands xs)) (size x) (agrees-right (demand_in tree) first (demands x) (flat_map demands xs) agrees)))

job-walk : (tree : Tree) (first : ℕ) (job : JobState) → HaveJobTop tree.top job → Agrees (demand_in tree) first (job_demands job) → map (seen_of tree) (job_nodes (numbered_job first job)) ≡ job_seen job
job-walk tree first job has agrees =
    ap {B = List Seen} (λ value. record { kind = kinds.Job; value = value } ∷ []) (job-agrees tree.top (demand_in tree) first job has agrees)

user-walk : (tree : Tree) (first : ℕ) (user : UserState) → HaveUserTop tree.top user → Agrees (demand_in tree) first (user_demands user) → map (seen_of tree) (user_nodes (numbered_user first user)) ≡ user_seen user
user-walk tree first user has agrees =
    ap₂ {C = List Seen} (λ value rest. record { kind = kinds.User; value = value } ∷ rest)
    (user-agrees tree.top (demand_in tree) first user has agrees)
    (walks-agree job_tasks numbered_job job_demands job_nodes job_seen (HaveJobTop tree.top) tree length-job_demands (job-walk tree) first user.jobs has.jobs agrees)

cluster-walk : (tree : Tree) (first : ℕ) (cluster : ClusterState) → HaveClusterTop tree.top cluster → Agrees (demand_in tree) first (cluster_demands cluster)
    → map (seen_of tree) (cluster_nodes (numbered_cluster first cluster)) ≡ cluster_seen cluster
cluster-walk tree first cluster has agrees =
    ap₂ {C = List Seen} (λ value rest. record { kind = kinds.Cluster; value = value } ∷ rest)
    (cluster-agrees tree.top (demand_in tree) first cluster has agrees)
    (walks-agree user_tasks numbered_user user_demands user_nodes user_seen (HaveUserTop tree.top) tree length-user_demands (user-walk tree) first cluster.users has.users agrees)

pub walk-seen : (top : ℕ) (clusters : List ClusterState) → All (HaveClusterTop top) clusters
    → map (seen_of (tree_of top clusters)) (walk (numbered_clusters clusters)) ≡ flat_map cluster_seen clusters
walk-seen top clusters have =
    let tree = tree_of top clusters in
    let agrees : Agrees (demand_in tree) 0 (demands_of clusters) = record { at = λ place within. let e : 0 + place ≡ place = omega arith in ap (demand_in tree) e } in
    walks-agree cluster_tasks numbered_cluster cluster_demands cluster_nodes cluster_seen (HaveClusterTop top) tree length-cluster_demands (cluster-walk tree) 0 clusters have agrees

pub length-seen : (top : ℕ) (clusters : List ClusterState) → All (HaveClusterTop top) clusters → length (walk (numbered_clusters clusters)) ≡ length (flat_map cluster_seen clusters)
length-seen top clusters have =
    sym (length-map (walk (numbered_clusters clusters)) (seen_of (tree_of top clusters))) ∙ ap (λ (nodes : List Seen). length nodes) (walk-seen top clusters have)

-- a node by its number
pub node-seen : (top : ℕ) (clusters : List ClusterState) → All (HaveClusterTop top) clusters → (node : ℕ) → node < length (walk (numbered_clusters clusters))
    → seen_of (tree_of top clusters) (node_in (tree_of top clusters) node) ≡ seen_at (flat_map cluster_seen clusters) node
node-seen top clusters have node lt =
    sym (get_or-map (seen_of (tree_of top clusters)) (walk (numbered_clusters clusters)) node _ _ lt)
    ∙ ap (λ (nodes : List Seen). seen_at nodes node) (walk-seen top clusters have)
