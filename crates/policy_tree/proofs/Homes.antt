-- Where a task is, its demand stands in the list of all demands at its number.
use Rattle.std.proofs.Common.{◌≡◌, ℕ, zero, suc, ◌+◌, ◌<◌, List, [], ◌∷◌, ◌++◌, length, get_or, set, map, take, flat_map, sum, sum_by, refl, sym, ◌∙◌, ap, ap₂, inl, inr, arith, subst}
use Rattle.std.proofs.lemmas.Bool.{cases_lt}
use Rattle.std.proofs.Math.Seq.{map-set_same}
use Rattle.std.proofs.lemmas.List.{length-map, length-append, get_or-map, take-map, map-set, set-append_left, length-set, length_push, get_or_append_left, get_or_push}
use Rattle.std.proofs.lemmas.List.Concat.{get_or-flat_map}
use Rattle.std.proofs.lemmas.List.Folds.{length-flat_map-take}
use Rattle.std.proofs.lemmas.List.Sums.{sum_by-cons}
use Rattle.tree_spec.specs.declared.task.Task.{Task}
use Rattle.tree_spec.specs.Tasks.{task_at}
use Rattle.policy_tree.specs.declared.home.Home.{Home}
use Rattle.policy_tree.specs.States.{JobState, UserState, ClusterState, job_tasks, cluster_tasks}
use Rattle.policy_tree.specs.Changes.{job_at, user_at, cluster_at, cluster_with}
use Rattle.policy_tree.specs.Numbering.{job_demands, user_demands, cluster_demands, demands_of}
use Rattle.policy_tree.specs.Kept.{user_counts, cluster_counts, counts_of, users_count, clusters_count, IsHome}
use Rattle.policy_tree.proofs.Agreement.{length-job_demands, length-cluster_demands, lengths-same}

-- one list among many changes at a place
set-append_add : (xs ys : List ℕ) (place value : ℕ) → set (xs ++ ys) (length xs + place) value ≡ xs ++ set ys place value
set-append_add [] ys place value = let none : 0 + place ≡ place = omega arith in ap (λ n. set ys n value) none
set-append_add (x ∷ xs) ys place value =
    let e : suc (length xs) + place ≡ suc (length xs + place) = omega arith in
    ap (λ n. set (x ∷ xs ++ ys) n value) e ∙ ap (λ rest. x ∷ rest) (set-append_add xs ys place value)

flat_map-set : {X : Type 0} (f : X → List ℕ) (xs : List X) (i k value : ℕ) (x d : X) → i < length xs → k < length (f (get_or xs i d)) → f x ≡ set (f (get_or xs i d)) k value
    → flat_map f (set xs i x) ≡ set (flat_map f xs) (length (flat_map f (take i xs)) + k) value
flat_map-set f [] i k value x d lt within same = absurd (omega arith)
flat_map-set f (y ∷ ys) zero k value x d lt within same =
    let none : 0 + k ≡ k = omega arith in
    ap (λ head. head ++ flat_map f ys) same ∙ sym (set-append_left (f y) (flat_map f ys) k value within) ∙ ap (λ n. set (f y ++ flat_map f ys) n value) (sym none)
flat_map-set f (y ∷ ys) (suc i) k value x d lt within same =
    let e : length (f y ++ flat_map f (take i ys)) + k ≡ length (f y) + (length (flat_map f (take i ys)) + k) = omega (arith, length-append (f y) (flat_map f (take i ys))) in
    ap (λ rest. f y ++ rest) (flat_map-set f ys i k value x d (omega arith) within same)
    ∙ sym (set-append_add (f y) (flat_map f ys) (length (flat_map f (take i ys)) + k) value)
    ∙ ap (λ n. set (f y ++ flat_map f ys) n value) (sym e)

-- counts are lengths
counts-lengths : {X C : Type 0} (count : X → C) (size : C → ℕ) (f : X → List ℕ) → ((x : X) → size (count x) ≡ length (f x)) → (xs : List X) → sum_by size (map count xs) ≡ length (flat_map f xs)
counts-lengths count size f same [] = refl
counts-lengths count size f same (x ∷ xs) =
    omega (arith, sum_by-cons size (count x) (map count xs), length-append (f x) (flat_map f xs), same x, counts-lengths count size f same xs)

user_counts-length : (user : UserState) → sum (user_counts user) ≡ length (user_demands user)
user_counts-length user = counts-lengths job_tasks (λ n. n) job_demands (λ job. sym (length-job_demands job)) user.jobs

cluster_counts-length : (cluster : ClusterState) → users_count (cluster_counts cluster) ≡ length (cluster_demands cluster)
cluster_counts-length cluster = counts-lengths user_counts (λ jobs. sum jobs) user_demands user_counts-length cluster.users

pub counts_of-length : (clusters : List ClusterState) → clusters_count (counts_of clusters) ≡ length (demands_of clusters)
counts_of-length clusters = counts-lengths cluster_counts users_count cluster_demands cluster_counts-length clusters

before-length : {X C : Type 0} (count : X → C) (size : C → ℕ) (f : X → List ℕ) → ((x : X) → size (count x) ≡ length (f x)) → (xs : List X) (place : ℕ)
    → sum_by size (take place (map count xs)) ≡ length (flat_map f (take place xs))
before-length count size f same xs place = ap (sum_by size) (take-map count place xs) ∙ counts-lengths count size f same (take place xs)

-- so many tasks come before a cluster
pub counts-before : (clusters : List ClusterState) (place : ℕ) → clusters_count (take place (counts_of clusters)) ≡ sum_by cluster_tasks (take place clusters)
counts-before clusters place =
    before-length cluster_counts users_count cluster_demands cluster_counts-length clusters place
    ∙ lengths-same cluster_demands cluster_tasks length-cluster_demands (take place clusters)

-- a task at home, seen in the nodes
pub record IsAt (clusters : List ClusterState) (number : ℕ) (home : Home) : Type 0 where
  pub cluster : home.cluster < length clusters
  pub user : home.user < length (cluster_at clusters home.cluster).users
  pub job : home.job < length (user_at (cluster_at clusters home.cluster).users home.user).jobs
  pub task : home.task < job_tasks (job_at (user_at (cluster_at clusters home.cluster).users home.user).jobs home.job)
  pub counted : number ≡ length (flat_map cluster_demands (take home.cluster clusters))
      + (length (flat_map user_demands (take home.user (cluster_at clusters home.cluster).users))
      + (length (flat_map job_demands (take home.job (user_at (cluster_at clusters home.cluster).users home.user).jobs)) + home.task))

pub home-at : (clusters : List ClusterState) (number : ℕ) (home : Home) → IsHome (counts_of clusters) number home → IsAt clusters number home
home-at clusters number home is =
    let cluster = cluster_at clusters home.cluster in
    let user = user_at cluster.users home.user in
    let job = job_at user.jobs home.job in
    let within : home.cluster < length clusters = omega (arith, is.cluster, length-map clusters cluster_counts) in
    let counts : get_or (counts_of clusters) home.cluster [] ≡ cluster_counts cluster = get_or-map cluster_counts clusters home.cluster _ [] within in
    let is_user : home.user < length (cluster_counts cluster) = subst (λ (users : List (List ℕ)). home.user < length users) counts is.user in
    let within_user : home.user < length cluster.users = omega (arith, is_user, length-map cluster.users user_counts) in
    let counts_user : get_or (get_or (counts_of clusters) home.cluster []) home.user [] ≡ user_counts user =
    ap (λ (users : List (List ℕ)). get_or users home.user []) counts ∙ get_or-map user_counts cluster.users home.user _ [] within_user in
    let is_job : home.job < length (user_counts user) = subst (λ (jobs : List ℕ). home.job < length jobs) counts_user is.job in
    let within_job : home.job < length user.jobs = omega (arith, is_job, length-map user.jobs job_tasks) in
    let count_job : get_or (get_or (get_or (counts_of clusters) home.cluster []) home.user []) home.job 0 ≡ job_tasks job =
    ap (λ (jobs : List ℕ). get_or jobs home.job 0) counts_user ∙ get_or-map job_tasks user.jobs home.job _ 0 within_job in
    record {
      cluster = within;
      user = within_user;
      job = within_job;
      task = subst (λ (n : ℕ). home.task < n) count_job is.task;
      counted = is.counted
          ∙ ap₂ (λ before rest. before + rest) (before-length cluster_counts users_count cluster_demands cluster_counts-length clusters home.cluster)
          (ap₂ (λ before rest. before + rest)
          (ap (λ (users : List (List ℕ)). users_count (take home.user users)) counts ∙ before-length user_counts (λ jobs. sum jobs) user_demands user_counts-length cluster.users home.user)
          (ap (λ before. before + home.task)
          (ap (λ (jobs : List ℕ). sum (take home.job jobs)) counts_user ∙ before-length job_tasks (λ n. n) job_demands (λ job. sym (length-job_demands job)) user.jobs home.job)));
    }

-- a place in one list is a place in all of them
pub within_all : {X Y : Type 0} (f : X → List Y) (xs : List X) (i k : ℕ) (d : X) → i < length xs → k < length (f (get_or xs i d)) → length (flat_map f (take i xs)) + k < length (flat_map f xs)
within_all f xs i k d lt within = omega (arith, length-flat_map-take f xs i d lt)

-- the demand at the number
pub demand-at : (clusters : List ClusterState) (number : ℕ) (home : Home) → IsAt clusters number home
    → get_or (demands_of clusters) number 0 ≡ (task_at (job_at (user_at (cluster_at clusters home.cluster).users home.user).jobs home.job).sum.tasks home.task).demand
demand-at clusters number home is =
    let cluster = cluster_at clusters home.cluster in
    let user = user_at cluster.users home.user in
    let job = job_at user.jobs home.job in
    let in_job : home.task < length (job_demands job) = omega (arith, is.task, length-job_demands job) in
    let in_user : length (flat_map job_demands (take home.job user.jobs)) + home.task < length (user_demands user) = within_all job_demands user.jobs home.job home.task _ is.job in_job in
    let in_cluster : length (flat_map user_demands (take home.user cluster.users)) + (length (flat_map job_demands (take home.job user.jobs)) + home.task) < length (cluster_demands cluster) =
    within_all user_demands cluster.users home.user _ _ is.user in_user in
    ap (λ n. get_or (demands_of clusters) n 0) is.counted
    ∙ get_or-flat_map cluster_demands clusters home.cluster _ _ 0 is.cluster in_cluster
    ∙ get_or-flat_map user_demands cluster.users home.user _ _ 0 is.user in_user
    ∙ get_or-flat_map job_demands user.jobs home.job _ _ 0 is.job in_job
    ∙ get_or-map (λ task. task.demand) job.sum.tasks home.task _ 0 is.task

-- a change there is a change at the number
pub demands-with : (clusters : List ClusterState) (number : ℕ) (home : Home) (demand : ℕ) → IsAt clusters number home
    → demands_of (set clusters home.cluster (cluster_with (cluster_at clusters home.cluster) home.user home.job home.task demand)) ≡ set (demands_of clusters) number demand
demands-with clusters number home demand is =
    let cluster = cluster_at clusters home.cluster in
    let user = user_at cluster.users home.user in
    let job = job_at user.jobs home.job in
    let in_job : home.task < length (job_demands job) = omega (arith, is.task, length-job_demands job) in
    let in_user : length (flat_map job_demands (take home.job user.jobs)) + home.task < length (user_demands user) = within_all job_demands user.jobs home.job home.task _ is.job in_job in
    let in_cluster : length (flat_map user_demands (take home.user cluster.users)) + (length (flat_map job_demands (take home.job user.jobs)) + home.task) < length (cluster_demands cluster) =
    within_all user_demands cluster.users home.user _ _ is.user in_user in
    flat_map-set cluster_demands clusters home.cluster _ demand _ _ is.cluster in_cluster
    (flat_map-set user_demands cluster.users home.user _ demand _ _ is.user in_user
    (flat_map-set job_demands user.jobs home.job _ demand _ _ is.job in_job
    (map-set (λ (task : Task). task.demand) job.sum.tasks home.task _)))
    ∙ ap (λ n. set (demands_of clusters) n demand) (sym is.counted)

-- and the counts stay
pub counts-with : (clusters : List ClusterState) (cluster user job task demand : ℕ)
    → counts_of (set clusters cluster (cluster_with (cluster_at clusters cluster) user job task demand)) ≡ counts_of clusters
counts-with clusters cluster user job task demand =
    let held = cluster_at clusters cluster in
    let held_user = user_at held.users user in
    let held_job = job_at held_user.jobs job in
    map-set_same cluster_counts clusters cluster _ _
    (map-set_same user_counts held.users user _ _
    (map-set_same job_tasks held_user.jobs job _ _ (length-set held_job.sum.tasks task _)))

-- the homes of the tasks below a number
pub record AreHomesBelow (clusters : List (List (List ℕ))) (homes : List Home) (count : ℕ) : Type 0 where
  pub size : length homes ≡ count
  pub each : (number : ℕ) (d : Home) → number < length homes → IsHome clusters number (get_or homes number d)

pub homes-push : (clusters : List (List (List ℕ))) (homes : List Home) (home : Home) (count : ℕ) → AreHomesBelow clusters homes count → IsHome clusters count home → AreHomesBelow clusters (homes ++ home ∷ []) (count + 1)
homes-push clusters homes home count are is = record {
  size = omega (arith, length_push homes home, are.size);
  each = λ number d lt.
      elim (cases_lt number (length homes)) [
        | inl below ↦ subst (IsHome clusters number) (sym (get_or_append_left homes (home ∷ []) d number below)) (are.each number d below)
        | inr past ↦
            let e : number ≡ count = omega (arith, length_push homes home, lt, past, are.size) in
            let at : get_or (homes ++ home ∷ []) number d ≡ home = get_or_push homes home d number (omega (arith, e, are.size)) in
            subst (IsHome clusters number) (sym at) (subst (λ n. IsHome clusters n home) (sym e) is)
      ];
}

pub homes-counted : (clusters : List (List (List ℕ))) (homes : List Home) (count count' : ℕ) → count ≡ count' → AreHomesBelow clusters homes count → AreHomesBelow clusters homes count'
homes-counted clusters homes count count' same are = record { size = are.size ∙ same; each = are.each }

-- what was read is at its place
pub counts-cluster : (clusters : List ClusterState) (place : ℕ) (cluster : ClusterState) → place < length clusters → cluster ≡ get_or clusters place cluster → get_or (counts_of clusters) place [] ≡ cluster_counts cluster
counts-cluster clusters place cluster lt read = get_or-map cluster_counts clusters place cluster [] lt ∙ ap cluster_counts (sym read)

pub counts-user : (users : List UserState) (place : ℕ) (user : UserState) → place < length users → user ≡ get_or users place user → get_or (map user_counts users) place [] ≡ user_counts user
counts-user users place user lt read = get_or-map user_counts users place user [] lt ∙ ap user_counts (sym read)

pub counts-job : (jobs : List JobState) (place : ℕ) (job : JobState) → place < length jobs → job ≡ get_or jobs place job → get_or (map job_tasks jobs) place 0 ≡ job_tasks job
counts-job jobs place job lt read = get_or-map job_tasks jobs place job 0 lt ∙ ap job_tasks (sym read)
