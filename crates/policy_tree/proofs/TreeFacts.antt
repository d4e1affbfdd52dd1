-- What is true of every tree.
use Rattle.std.proofs.Common.{◌≡◌, ℕ, zero, suc, ◌+◌, ◌<◌, ◌≤◌, List, [], ◌∷◌, ◌++◌, length, get_or, set, take, map, flat_map, Option, Some, None, sum_by, slice_index_or, All, refl, sym, ◌∙◌, ap, ap₂, arith, subst}
use Rattle.std.specs.List.{range_with_len}
use Rattle.std.proofs.lemmas.List.FromFn.{length-range_with_len}
use Rattle.std.proofs.lemmas.List.{get_or-map, length-map, length-set, take-map}
use Rattle.std.proofs.lemmas.List.Sums.{sum_by-cons}
use Rattle.std.proofs.lemmas.List.Elements.{All-head, All-tail, All-append, All-nil, All-map, All-set, All-get_or, All-weaker}
use Rattle.bwe_specs.specs.declared.limits.TheConstants.{MAX_AMOUNT, MAX_TOTAL}
use Rattle.bwe_specs.specs.Bounded.{sum_below}
use Rattle.bwe_specs.specs.FunctionValue.{IsFunction}
use Rattle.bwe_specs.specs.Values.{AreValues, IsShareFunction}
use Rattle.bwe_specs.specs.Tree.{Weighted, Cluster, cluster_value}
use Rattle.bwe_specs.specs.TreeFunctions.{IsConfigured, AreJobs, AreUsers, AreClusters}
use Rattle.bwe_specs.specs.Distribution.{children_sum}
use Rattle.bwe_specs.proofs.Bounds.{sum_below-same}
use Rattle.bwe_specs.proofs.HandedOut.{cluster-at}
use Rattle.bwe_specs.proofs.ShareFunctions.{cluster_value-is_share_function}
use Rattle.bwe_specs.proofs.Sums.{sum_below-list}
use Rattle.bw_function.specs.BwFunction.{Function}
use Rattle.tree_spec.specs.declared.task.Task.{Task}
use Rattle.tree_spec.specs.Tasks.{IsInRange}
use Rattle.policy_tree.specs.declared.home.Home.{Home}
use Rattle.policy_tree.specs.States.{JobState, UserState, ClusterState, job_tasks, user_tasks, cluster_tasks, cluster_meaning, IsKeptFunction, IsJobState, IsUserState, IsClusterState}
use Rattle.policy_tree.specs.Asked.{HasTop}
use Rattle.policy_tree.specs.Walk.{walk}
use Rattle.policy_tree.specs.Changes.{job_at, user_at, cluster_at, job_with, user_with, cluster_with}
use Rattle.tree_spec.specs.Numbering.{numbered}
use Rattle.policy_tree.specs.Numbering.{points_by, numbered_task, numbered_tasks, numbered_job, numbered_jobs, numbered_user, numbered_users, numbered_cluster, numbered_clusters, job_demands, user_demands, cluster_demands, demands_of}
use Rattle.policy_tree.specs.Trees.{Tree, demand_in, value_in, job_numbers, user_numbers, cluster_numbers, task_numbers, IsTree, tree_of}
use Rattle.policy_tree.specs.Kept.{HaveJobTop, HaveUserTop, HaveClusterTop, IsHome, IsKeptTree, AreFirsts, AreHomes, counts_of, cluster_counts}
use Rattle.policy_tree.proofs.Meanings.{cluster-most, nodes-most, nodes-sum}
use Rattle.policy_tree.proofs.Numbers.{agrees-at, get_or-numbered, length-numbered, numbered-set_same, take-numbered}
use Rattle.std.specs.Prelude.{Vec}
use Rattle.std.specs.Global.{Global}
use Rattle.tree_spec.specs.declared.spec.ClusterSpec.{ClusterSpec}
use Rattle.policy_tree.specs.Asked.{idle_cluster}
use Rattle.policy_tree.specs.Childless.{AreFirstsOf}
use Rattle.policy_tree.proofs.Idle.{idle_clusters-tasks}
use Rattle.policy_tree.specs.Nodes.{Agrees, first_in, IsClusterOf}
use Rattle.policy_tree.proofs.Agreement.{clusters-agree, length-demands, length-cluster_demands}
use Rattle.policy_tree.proofs.Updates.{job_tasks-with, user_tasks-with, cluster_tasks-with, cluster_with-is, sum_by-set_same}
use Rattle.policy_tree.proofs.Homes.{IsAt, counts-before, counts-with, counts_of-length, home-at}

-- functions of the nodes are functions up to the top
configured-is : (top : ℕ) (configured : Option Function) → IsKeptFunction configured → HasTop top configured → IsConfigured (points_by configured) top
configured-is top None kept has = tt
configured-is top (Some function) kept has = subst (IsFunction function.points) has kept.points

jobs-are : (top first : ℕ) (jobs : List JobState) → All IsJobState jobs → All (HaveJobTop top) jobs → AreJobs top (numbered_jobs first jobs)
unfolding numbered
jobs-are top first [] are have = tt
jobs-are top first (job ∷ jobs) are have =
    let is = All-head IsJobState job jobs are in
    let has = All-head (HaveJobTop top) job jobs have in (
      (configured-is top job.configured is.configured has.configured, subst (IsFunction job.sum.function.points) has.task is.function.points),
      jobs-are top (first + job_tasks job) jobs (All-tail IsJobState job jobs are) (All-tail (HaveJobTop top) job jobs have),
    )

users-are : (top first : ℕ) (users : List UserState) → All IsUserState users → All (HaveUserTop top) users → AreUsers top (numbered_users first users)
unfolding numbered
users-are top first [] are have = tt
users-are top first (user ∷ users) are have =
    let is = All-head IsUserState user users are in
    let has = All-head (HaveUserTop top) user users have in (
      (configured-is top user.configured is.configured has.configured, jobs-are top first user.jobs is.jobs has.jobs),
      users-are top (first + user_tasks user) users (All-tail IsUserState user users are) (All-tail (HaveUserTop top) user users have),
    )

clusters-are : (top first : ℕ) (clusters : List ClusterState) → All IsClusterState clusters → All (HaveClusterTop top) clusters → AreClusters top (numbered cluster_tasks numbered_cluster first clusters)
unfolding numbered
clusters-are top first [] are have = tt
clusters-are top first (cluster ∷ clusters) are have =
    let is = All-head IsClusterState cluster clusters are in
    let has = All-head (HaveClusterTop top) cluster clusters have in (
      (configured-is top cluster.configured is.configured has.configured, users-are top first cluster.users is.users has.users),
      clusters-are top (first + cluster_tasks cluster) clusters (All-tail IsClusterState cluster clusters are) (All-tail (HaveClusterTop top) cluster clusters have),
    )

-- one task more
pub range-push : (first count : ℕ) → range_with_len first (count + 1) ≡ range_with_len first count ++ (first + count) ∷ []
range-push first zero = let e : first ≡ first + 0 = omega arith in ap (λ n. n ∷ []) e
range-push first (suc count) =
    let more : suc count + 1 ≡ suc (count + 1) = omega arith in
    let e : first + 1 + count ≡ first + suc count = omega arith in
    ap (range_with_len first) more ∙ ap (λ rest. first ∷ rest) (range-push (first + 1) count) ∙ ap (λ n. first ∷ (range_with_len (first + 1) count ++ n ∷ [])) e

-- tasks are numbered in one walk
range-append : (first count more : ℕ) → range_with_len first count ++ range_with_len (first + count) more ≡ range_with_len first (count + more)
range-append first zero more =
    let a : first + 0 ≡ first = omega arith in
    let b : 0 + more ≡ more = omega arith in
    ap₂ range_with_len a (sym b)
range-append first (suc count) more =
    let a : first + suc count ≡ first + 1 + count = omega arith in
    let b : suc count + more ≡ suc (count + more) = omega arith in
    ap (λ n. first ∷ (range_with_len (first + 1) count ++ range_with_len n more)) a
    ∙ ap (λ rest. first ∷ rest) (range-append (first + 1) count more)
    ∙ ap (range_with_len first) (sym b)

numbers-of : {X Y : Type 0} (tasks : X → ℕ) (item : ℕ → X → Y) (numbers : Y → List ℕ) → ((first : ℕ) (x : X) → numbers (item first x) ≡ range_with_len first (tasks x))
    → (first : ℕ) (xs : List X) → flat_map numbers (numbered tasks item first xs) ≡ range_with_len first (sum_by tasks xs)
unfolding numbered
numbers-of tasks item numbers each first [] = refl
numbers-of tasks item numbers each first (x ∷ xs) =
    ap₂ (λ head rest. head ++ rest) (each first x) (numbers-of tasks item numbers each (first + tasks x) xs)
    ∙ range-append first (tasks x) (sum_by tasks xs)
    ∙ ap (range_with_len first) (sym (sum_by-cons tasks x xs))

tasks-numbers : (first : ℕ) (tasks : List Task) → map (λ (task : Weighted). task.number) (numbered_tasks first tasks) ≡ range_with_len first (length tasks)
unfolding numbered
tasks-numbers first [] = refl
tasks-numbers first (task ∷ tasks) = ap (λ rest. first ∷ rest) (tasks-numbers (first + 1) tasks)

pub job-numbers : (first : ℕ) (job : JobState) → job_numbers (numbered_job first job) ≡ range_with_len first (job_tasks job)
job-numbers first job = tasks-numbers first job.sum.tasks

user-numbers : (first : ℕ) (user : UserState) → user_numbers (numbered_user first user) ≡ range_with_len first (user_tasks user)
user-numbers first user = numbers-of job_tasks numbered_job job_numbers job-numbers first user.jobs

pub cluster-numbers : (first : ℕ) (cluster : ClusterState) → cluster_numbers (numbered_cluster first cluster) ≡ range_with_len first (cluster_tasks cluster)
cluster-numbers first cluster = numbers-of user_tasks numbered_user user_numbers user-numbers first cluster.users

pub clusters-numbers : (clusters : List ClusterState) → task_numbers (numbered_clusters clusters) ≡ range_with_len 0 (sum_by cluster_tasks clusters)
clusters-numbers clusters = numbers-of cluster_tasks numbered_cluster cluster_numbers cluster-numbers 0 clusters

-- demands are in range
demands-few : {X : Type 0} (demands : X → List ℕ) (P : X → Type 0) → ((x : X) → P x → All (λ demand. demand ≤ MAX_AMOUNT) (demands x))
    → (xs : List X) → All P xs → All (λ demand. demand ≤ MAX_AMOUNT) (flat_map demands xs)
demands-few demands P each [] all = All-nil (λ demand. demand ≤ MAX_AMOUNT)
demands-few demands P each (x ∷ xs) all =
    All-append (λ demand. demand ≤ MAX_AMOUNT) (demands x) (flat_map demands xs) (each x (All-head P x xs all)) (demands-few demands P each xs (All-tail P x xs all))

job-demands-few : (job : JobState) → IsJobState job → All (λ demand. demand ≤ MAX_AMOUNT) (job_demands job)
job-demands-few job is = All-map (λ demand. demand ≤ MAX_AMOUNT) (λ (task : Task). task.demand) job.sum.tasks (All-weaker IsInRange (λ task. task.demand ≤ MAX_AMOUNT) (λ task small. small.demand) job.sum.tasks is.small.each)

user-demands-few : (user : UserState) → IsUserState user → All (λ demand. demand ≤ MAX_AMOUNT) (user_demands user)
user-demands-few user is = demands-few job_demands IsJobState job-demands-few user.jobs is.jobs

cluster-demands-few : (cluster : ClusterState) → IsClusterState cluster → All (λ demand. demand ≤ MAX_AMOUNT) (cluster_demands cluster)
cluster-demands-few cluster is = demands-few user_demands IsUserState user-demands-few cluster.users is.users

pub tree-is : (top : ℕ) (clusters : List ClusterState) (homes : List Home) (firsts : List ℕ) → IsKeptTree top clusters homes firsts → IsTree (tree_of top clusters)
tree-is top clusters homes firsts kept = record {
  low = kept.low;
  high = kept.high;
  functions = clusters-are top 0 clusters kept.are kept.tops;
  numbers = clusters-numbers clusters ∙ ap (range_with_len 0) (sym (length-demands clusters));
  few = omega (arith, length-demands clusters, kept.few);
  demands = demands-few cluster_demands IsClusterState cluster-demands-few clusters kept.are;
}

-- the values of the groups
value-share_function : (tree : Tree) → AreClusters tree.top tree.clusters → (group : ℕ) → IsShareFunction tree.top (value_in tree group)
value-share_function tree are group =
    cluster_value-is_share_function tree.top (demand_in tree) (slice_index_or tree.clusters group (record { configured = None; users = [] })) (cluster-at tree.top tree.clusters are group)

pub value-agrees : (top : ℕ) (clusters : List ClusterState) → All (HaveClusterTop top) clusters → (group share : ℕ) → group < length clusters
    → value_in (tree_of top clusters) group share ≡ cluster_meaning (cluster_at clusters group) share
value-agrees top clusters have group share lt =
    let demand = demand_in (tree_of top clusters) in
    let agrees : Agrees demand 0 (demands_of clusters) = record { at = λ place within. let e : 0 + place ≡ place = omega arith in ap demand e } in
    let lists = clusters-agree top demand 0 clusters have agrees in
    let within : group < length (numbered_clusters clusters) = omega (arith, lt, length-numbered cluster_tasks numbered_cluster 0 clusters) in
    ap (λ (value : ℕ → ℕ). value share)
    (sym (get_or-map (cluster_value top demand) (numbered_clusters clusters) group _ (λ s. 0) within)
    ∙ ap (λ (values : List (ℕ → ℕ)). get_or values group (λ s. 0)) lists
    ∙ get_or-map cluster_meaning clusters group _ (λ s. 0) lt)

pub values-are : (top : ℕ) (clusters : List ClusterState) (homes : List Home) (firsts : List ℕ) → IsKeptTree top clusters homes firsts → AreValues (length (numbered_clusters clusters)) top (value_in (tree_of top clusters))
values-are top clusters homes firsts kept =
    let tree = tree_of top clusters in
    let share_function = value-share_function tree (tree-is top clusters homes firsts kept).functions in
    let size = length-numbered cluster_tasks numbered_cluster 0 clusters in
    let all : sum_below (length clusters) (λ group. value_in tree group top) ≡ children_sum (map cluster_meaning clusters) top =
    sum_below-same (length clusters) (λ group. value_in tree group top) (λ group. cluster_meaning (cluster_at clusters group) top) (λ group lt. value-agrees top clusters kept.tops group top lt)
    ∙ sum_below-list (λ cluster. cluster_meaning cluster top) clusters _
    ∙ sym (nodes-sum cluster_meaning clusters top) in
    let few : sum_below (length clusters) (λ group. value_in tree group top) ≤ MAX_TOTAL =
    omega (arith, all, nodes-most cluster_meaning cluster_tasks IsClusterState cluster-most clusters kept.are top, kept.few) in
    record {
      top_small = kept.high;
      starts = λ group. (share_function group).starts;
      never_falls = λ group share lt. (share_function group).next share lt;
      together = subst (λ n. sum_below n (λ group. value_in tree group top) ≤ MAX_TOTAL) (sym size) few;
    }

-- another demand of one task
tasks-with : (first : ℕ) (tasks : List Task) (task demand : ℕ) → numbered_tasks first (set tasks task (record { weight = (get_or tasks task (record { weight = 0; demand = 0 })).weight; demand = demand })) ≡ numbered_tasks first tasks
tasks-with first tasks task demand = numbered-set_same (λ task. 1) numbered_task first tasks task _ _ refl (λ n. refl)

job-numbered-with : (first : ℕ) (job : JobState) (task demand : ℕ) → numbered_job first (job_with job task demand) ≡ numbered_job first job
job-numbered-with first job task demand =
    ap (λ tasks. record { configured = points_by job.configured; task = job.sum.function.points; tasks = tasks }) (tasks-with first job.sum.tasks task demand)

user-numbered-with : (first : ℕ) (user : UserState) (job task demand : ℕ) → numbered_user first (user_with user job task demand) ≡ numbered_user first user
user-numbered-with first user job task demand =
    let held = job_at user.jobs job in
    ap (λ jobs. record { configured = points_by user.configured; jobs = jobs })
    (numbered-set_same job_tasks numbered_job first user.jobs job _ _ (job_tasks-with held task demand) (λ n. job-numbered-with n held task demand))

cluster-numbered-with : (first : ℕ) (cluster : ClusterState) (user job task demand : ℕ) → numbered_cluster first (cluster_with cluster user job task demand) ≡ numbered_cluster first cluster
cluster-numbered-with first cluster user job task demand =
    let held = user_at cluster.users user in
    ap (λ users. record { configured = points_by cluster.configured; users = users })
    (numbered-set_same user_tasks numbered_user first cluster.users user _ _ (user_tasks-with held job task demand) (λ n. user-numbered-with n held job task demand))

pub numbered-with : (clusters : List ClusterState) (cluster user job task demand : ℕ)
    → numbered_clusters (set clusters cluster (cluster_with (cluster_at clusters cluster) user job task demand)) ≡ numbered_clusters clusters
numbered-with clusters cluster user job task demand =
    let held = cluster_at clusters cluster in
    numbered-set_same cluster_tasks numbered_cluster 0 clusters cluster _ _ (cluster_tasks-with held user job task demand) (λ n. cluster-numbered-with n held user job task demand)

tops-with : (top : ℕ) (clusters : List ClusterState) (cluster user job task demand : ℕ) → All (HaveClusterTop top) clusters
    → cluster < length clusters → user < length (cluster_at clusters cluster).users → job < length (user_at (cluster_at clusters cluster).users user).jobs
    → All (HaveClusterTop top) (set clusters cluster (cluster_with (cluster_at clusters cluster) user job task demand))
tops-with top clusters cluster user job task demand have within within_user within_job =
    let held = cluster_at clusters cluster in
    let has = All-get_or (HaveClusterTop top) clusters cluster _ within have in
    let held_user = user_at held.users user in
    let has_user = All-get_or (HaveUserTop top) held.users user _ within_user has.users in
    let held_job = job_at held_user.jobs job in
    let has_job = All-get_or (HaveJobTop top) held_user.jobs job _ within_job has_user.jobs in
    All-set (HaveClusterTop top) clusters cluster _ (record {
      configured = has.configured;
      users = All-set (HaveUserTop top) held.users user _ (record {
        configured = has_user.configured;
        jobs = All-set (HaveJobTop top) held_user.jobs job _ (record { configured = has_job.configured; task = has_job.task }) has_user.jobs;
      }) has.users;
    }) have

-- what is kept, with another demand
pub kept-with : (top : ℕ) (clusters : List ClusterState) (homes : List Home) (firsts : List ℕ) (number : ℕ) (home : Home) (demand : ℕ) → IsKeptTree top clusters homes firsts → IsAt clusters number home → demand ≤ 1_000_000_000_000
    → IsKeptTree top (set clusters home.cluster (cluster_with (cluster_at clusters home.cluster) home.user home.job home.task demand)) homes firsts
kept-with top clusters homes firsts number home demand kept is few =
    let held = cluster_at clusters home.cluster in
    record {
      low = kept.low;
      high = kept.high;
      groups = omega (arith, kept.groups, length-set clusters home.cluster (cluster_with held home.user home.job home.task demand));
      tops = tops-with top clusters home.cluster home.user home.job home.task demand kept.tops is.cluster is.user is.job;
      are = All-set IsClusterState clusters home.cluster _ (cluster_with-is held home.user home.job home.task demand (All-get_or IsClusterState clusters home.cluster _ is.cluster kept.are) is.user is.job is.task few) kept.are;
      few = omega (arith, kept.few, sum_by-set_same cluster_tasks clusters home.cluster (cluster_with held home.user home.job home.task demand) _ (cluster_tasks-with held home.user home.job home.task demand));
      tasks = subst (λ (counts : List (List (List ℕ))). AreHomes counts homes) (sym (counts-with clusters home.cluster home.user home.job home.task demand)) kept.tasks;
      starts = subst (λ (counts : List (List (List ℕ))). AreFirsts counts firsts) (sym (counts-with clusters home.cluster home.user home.job home.task demand)) kept.starts;
      nodes = subst (λ (numbered : List Cluster). length (walk numbered) < 4_294_967_296) (sym (numbered-with clusters home.cluster home.user home.job home.task demand)) kept.nodes;
    }

-- each task is at home
pub length-homes : (top : ℕ) (clusters : List ClusterState) (homes : List Home) (firsts : List ℕ) → IsKeptTree top clusters homes firsts → length (demands_of clusters) ≡ length homes
length-homes top clusters homes firsts kept = sym (kept.tasks.size ∙ counts_of-length clusters)

pub home-known : (top : ℕ) (clusters : List ClusterState) (homes : List Home) (firsts : List ℕ) (tree : Tree) → IsKeptTree top clusters homes firsts → tree_of top clusters ≡ tree
    → (task : ℕ) → task < length tree.demands → task < length homes
home-known top clusters homes firsts tree kept same task lt =
    let e : length tree.demands ≡ length homes = ap (λ (t : Tree). length t.demands) (sym same) ∙ length-homes top clusters homes firsts kept in
    omega arith

pub home-is : (top : ℕ) (clusters : List ClusterState) (homes : List Home) (firsts : List ℕ) → IsKeptTree top clusters homes firsts → (task : ℕ) (home : Home) → task < length homes → home ≡ get_or homes task home → IsAt clusters task home
home-is top clusters homes firsts kept task home lt read = home-at clusters task home (subst (IsHome (counts_of clusters) task) (sym read) (kept.tasks.each task home lt))

pub length-clusters : (top : ℕ) (clusters : List ClusterState) (tree : Tree) → tree_of top clusters ≡ tree → length tree.clusters ≡ length clusters
length-clusters top clusters tree same = ap (λ (t : Tree). length t.clusters) (sym same) ∙ length-numbered cluster_tasks numbered_cluster 0 clusters

-- the group's cluster, with its numbers and its demands
pub first-numbered : (top : ℕ) (clusters : List ClusterState) (group : ℕ) → first_in (tree_of top clusters) group ≡ sum_by cluster_tasks (take group clusters)
first-numbered top clusters group =
    ap (λ (numbered : List Cluster). length (task_numbers numbered)) (take-numbered cluster_tasks numbered_cluster 0 clusters group)
    ∙ ap (λ (numbers : List ℕ). length numbers) (clusters-numbers (take group clusters))
    ∙ length-range_with_len 0 (sum_by cluster_tasks (take group clusters))

pub first-kept : (top : ℕ) (clusters : List ClusterState) (homes : List Home) (firsts : List ℕ) → IsKeptTree top clusters homes firsts → (group : ℕ) → group < length clusters
    → get_or firsts group 0 ≡ first_in (tree_of top clusters) group
first-kept top clusters homes firsts kept group lt =
    kept.starts.each group (omega (arith, length-map clusters cluster_counts, lt)) ∙ counts-before clusters group ∙ sym (first-numbered top clusters group)

pub cluster-of : (top : ℕ) (clusters : List ClusterState) → All (HaveClusterTop top) clusters → (group : ℕ) → group < length clusters → IsClusterOf (tree_of top clusters) group (cluster_at clusters group)
cluster-of top clusters have group lt =
    let demand = demand_in (tree_of top clusters) in
    let agrees : Agrees demand 0 (demands_of clusters) = record { at = λ place within. let e : 0 + place ≡ place = omega arith in ap demand e } in
    let first : first_in (tree_of top clusters) group ≡ 0 + sum_by cluster_tasks (take group clusters) = omega (arith, first-numbered top clusters group) in
    record {
      cluster = get_or-numbered cluster_tasks numbered_cluster 0 clusters group _ _ lt ∙ ap (λ n. numbered_cluster n (cluster_at clusters group)) (sym first);
      demands = subst (λ n. Agrees demand n (cluster_demands (cluster_at clusters group))) (sym first) (agrees-at cluster_tasks cluster_demands demand length-cluster_demands 0 clusters group _ lt agrees);
      tops = All-get_or (HaveClusterTop top) clusters group _ lt have;
    }

-- what a spec says of the first tasks is kept
pub idle-firsts : (specs : List ClusterSpec) (firsts : Vec ℕ Global) → AreFirstsOf specs firsts → AreFirsts (counts_of (map idle_cluster specs)) firsts.items
idle-firsts specs firsts are =
    let size = length-map (map idle_cluster specs) cluster_counts in
    let size_specs = length-map specs idle_cluster in
    record {
      size = are.size ∙ sym (size ∙ size_specs);
      each = λ group lt.
          are.each group (omega (arith, lt, size, size_specs))
          ∙ sym (counts-before (map idle_cluster specs) group ∙ ap (λ (states : List ClusterState). sum_by cluster_tasks states) (take-map idle_cluster group specs) ∙ idle_clusters-tasks (take group specs));
    }
