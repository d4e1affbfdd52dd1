use Rattle.std.proofs.Common.{refl, ◌≡◌, ℕ, ◌+◌, ◌<◌, ◌≤◌, ◌++◌, ◌∷◌, [], List, length, get_or, take, sum, map, sym, ap, subst, ◌∙◌, arith}
use Rattle.std.proofs.lemmas.List.{length-map, take_all}
use Rattle.std.proofs.lemmas.List.Sums.{sum_by_more}
use Rattle.policy_tree.specs.declared.home.Home.{Home}
use Rattle.policy_tree.specs.States.{JobState, UserState, ClusterState, job_tasks}
use Rattle.policy_tree.specs.Kept.{user_counts, cluster_counts, counts_of, users_count, clusters_count, IsHome}
use Rattle.policy_tree.proofs.Homes.{AreHomesBelow, homes-push, homes-counted, counts-cluster, counts-user, counts-job}
use Rattle.policy_tree.proofs.Sizes.{walk-size, clusters-within, users-within, jobs-within}
use Rattle.policy_tree.proofs.home.homes_of.Goals as goal
use Rattle.policy_tree.proofs.home.homes_of.Goals.{After-users-user_node-items, After-jobs-job_node-items, After-tasks-task-end}

cluster_read : (c : After-users-user_node-items) → get_or (counts_of c.args.clusters.now) c.loop-cluster.cluster [] ≡ map user_counts c.users-user_node-items.result.now
cluster_read c =
    counts-cluster c.args.clusters.now c.loop-cluster.cluster c.index-clusters-cluster.result c.loop-cluster-test.true c.index-clusters-cluster.is
    ∙ ap (λ (users : List UserState). map user_counts users) (sym c.users-user_node-items.ensures.users)

users_length : (c : After-users-user_node-items) → length (get_or (counts_of c.args.clusters.now) c.loop-cluster.cluster []) ≡ length c.users-user_node-items.result.now
users_length c = ap (λ (users : List (List ℕ)). length users) (cluster_read c) ∙ length-map c.users-user_node-items.result.now user_counts

user_read : (c : After-jobs-job_node-items) → get_or (get_or (counts_of c.args.clusters.now) c.loop-cluster.cluster []) c.loop-user.user [] ≡ map job_tasks c.jobs-job_node-items.result.now
user_read c =
    ap (λ (users : List (List ℕ)). get_or users c.loop-user.user []) (cluster_read (goal.at.loop-job-init c).After-users-user_node-items)
    ∙ counts-user c.users-user_node-items.result.now c.loop-user.user c.user_node-item.result c.loop-user-test.true c.user_node-item.is
    ∙ ap (λ (jobs : List JobState). map job_tasks jobs) (sym c.jobs-job_node-items.ensures.jobs)

user_within : (c : After-jobs-job_node-items) → c.loop-user.user < length (get_or (counts_of c.args.clusters.now) c.loop-cluster.cluster [])
user_within c = omega (arith, users_length (goal.at.loop-job-init c).After-users-user_node-items, c.loop-user-test.true)

jobs_length : (c : After-jobs-job_node-items) → length (get_or (get_or (counts_of c.args.clusters.now) c.loop-cluster.cluster []) c.loop-user.user []) ≡ length c.jobs-job_node-items.result.now
jobs_length c = ap (λ (jobs : List ℕ). length jobs) (user_read c) ∙ length-map c.jobs-job_node-items.result.now job_tasks

job_read : (c : After-tasks-task-end) → get_or (get_or (get_or (counts_of c.args.clusters.now) c.loop-cluster.cluster []) c.loop-user.user []) c.loop-job.job 0 ≡ c.tasks-task-end.result
job_read c =
    ap (λ (jobs : List ℕ). get_or jobs c.loop-job.job 0) (user_read (goal.at.loop-task-init c).After-jobs-job_node-items)
    ∙ counts-job c.jobs-job_node-items.result.now c.loop-job.job c.job_node-item.result c.loop-job-test.true c.job_node-item.is
    ∙ sym c.tasks-task-end.ensures

job_within : (c : After-tasks-task-end) → c.loop-job.job < length (get_or (get_or (counts_of c.args.clusters.now) c.loop-cluster.cluster []) c.loop-user.user [])
job_within c = omega (arith, jobs_length (goal.at.loop-task-init c).After-jobs-job_node-items, c.loop-job-test.true)

pub loop-cluster-init : goal.loop-cluster-init
loop-cluster-init c =
    subst (λ (homes : List Home). AreHomesBelow (counts_of c.args.clusters.now) homes 0) (sym c.new-homes.ensures.items)
    (record { size = refl; each = λ number d lt. absurd (omega arith) })

pub loop-user-init : goal.loop-user-init
loop-user-init c = homes-counted (counts_of c.args.clusters.now) c.loop-cluster.homes.items _ _ (omega arith) c.loop-cluster.invariant

pub loop-job-init : goal.loop-job-init
loop-job-init c = homes-counted (counts_of c.args.clusters.now) c.loop-user.homes.items _ _ (omega arith) c.loop-user.invariant

pub loop-task-init : goal.loop-task-init
loop-task-init c = homes-counted (counts_of c.args.clusters.now) c.loop-job.homes.items _ _ (omega arith) c.loop-job.invariant

pub loop-task-preserved : goal.loop-task-preserved
loop-task-preserved c =
    let all = counts_of c.args.clusters.now in
    let b = (goal.at.loop-task-preserved c).After-tasks-task-end in
    let before = clusters_count (take c.loop-cluster.cluster all) in
    let before_user = users_count (take c.loop-user.user (get_or all c.loop-cluster.cluster [])) in
    let before_job = sum (take c.loop-job.job (get_or (get_or all c.loop-cluster.cluster []) c.loop-user.user [])) in
    let count = before + (before_user + (before_job + c.loop-task.task)) in
    let next = before + (before_user + (before_job + (c.loop-task.task + 1))) in
    let one_more : count + 1 ≡ next = omega arith in
    let home : Home = record { cluster = c.loop-cluster.cluster; user = c.loop-user.user; job = c.loop-job.job; task = c.loop-task.task } in
    let is : IsHome all count home = record {
      cluster = omega (arith, length-map c.args.clusters.now cluster_counts, c.loop-cluster-test.true);
      user = user_within (goal.at.loop-task-preserved c).After-jobs-job_node-items;
      job = job_within b;
      task = omega (arith, job_read b, c.loop-task-test.true);
      counted = refl;
    } in
    subst (λ (homes : List Home). AreHomesBelow all homes next) (sym c.in_ok-push.ensures.items)
    (homes-counted all (c.loop-task.homes.items ++ home ∷ []) (count + 1) next one_more (homes-push all c.loop-task.homes.items home count c.loop-task.invariant is))

pub loop-job-preserved : goal.loop-job-preserved
loop-job-preserved c =
    let all = counts_of c.args.clusters.now in
    let b = (goal.at.loop-job-preserved c).After-tasks-task-end in
    let jobs = get_or (get_or all c.loop-cluster.cluster []) c.loop-user.user [] in
    homes-counted all c.loop-task.homes.items _ _
    (omega (arith, sum_by_more (λ (n : ℕ). n) jobs c.loop-job.job 0 (job_within b), job_read b, c.loop-task-test.false, c.loop-task.auto.task-end))
    c.loop-task.invariant

pub loop-user-preserved : goal.loop-user-preserved
loop-user-preserved c =
    let all = counts_of c.args.clusters.now in
    let b = (goal.at.loop-user-preserved c).After-jobs-job_node-items in
    let users = get_or all c.loop-cluster.cluster [] in
    let jobs = get_or users c.loop-user.user [] in
    let done : sum (take c.loop-job.job jobs) ≡ sum jobs = ap (λ (jobs : List ℕ). sum jobs) (take_all c.loop-job.job jobs (omega (arith, jobs_length b, c.loop-job-test.false))) in
    homes-counted all c.loop-job.homes.items _ _
    (omega (arith, sum_by_more (λ (jobs : List ℕ). sum jobs) users c.loop-user.user [] (user_within b), done))
    c.loop-job.invariant

pub loop-cluster-preserved : goal.loop-cluster-preserved
loop-cluster-preserved c =
    let all = counts_of c.args.clusters.now in
    let b = (goal.at.loop-cluster-preserved c).After-users-user_node-items in
    let users = get_or all c.loop-cluster.cluster [] in
    let within : c.loop-cluster.cluster < length all = omega (arith, length-map c.args.clusters.now cluster_counts, c.loop-cluster-test.true) in
    let done : users_count (take c.loop-user.user users) ≡ users_count users = ap users_count (take_all c.loop-user.user users (omega (arith, users_length b, c.loop-user-test.false))) in
    homes-counted all c.loop-user.homes.items _ _
    (omega (arith, sum_by_more users_count all c.loop-cluster.cluster [] within, done))
    c.loop-user.invariant

-- places are below the number of nodes, which has 32 bits
users_size : (c : After-users-user_node-items) → length c.users-user_node-items.result.now ≡ length (get_or c.args.clusters.now c.loop-cluster.cluster c.index-clusters-cluster.result).users
users_size c =
    ap (λ (users : List UserState). length users) c.users-user_node-items.ensures.users
    ∙ ap (λ (cluster : ClusterState). length cluster.users) c.index-clusters-cluster.is

jobs_size : (c : After-jobs-job_node-items)
    → length c.jobs-job_node-items.result.now
    ≡ length (get_or (get_or c.args.clusters.now c.loop-cluster.cluster c.index-clusters-cluster.result).users c.loop-user.user c.user_node-item.result).jobs
jobs_size c =
    let user = c.user_node-item.result in
    ap (λ (jobs : List JobState). length jobs) c.jobs-job_node-items.ensures.jobs
    ∙ ap (λ (state : UserState). length state.jobs) c.user_node-item.is
    ∙ ap (λ (users : List UserState). length (get_or users c.loop-user.user user).jobs) c.users-user_node-items.ensures.users
    ∙ ap (λ (cluster : ClusterState). length (get_or cluster.users c.loop-user.user user).jobs) c.index-clusters-cluster.is

pub overflow_cast-home : goal.overflow_cast-home
overflow_cast-home c =
    let clusters = c.args.clusters.now in
    omega (arith, clusters-within clusters, walk-size clusters, c.requires, c.loop-cluster-test.true)

pub overflow_cast-home-in-loop-task : goal.overflow_cast-home-in-loop-task
overflow_cast-home-in-loop-task c =
    let clusters = c.args.clusters.now in
    let b = (goal.at.overflow_cast-home-in-loop-task c).After-users-user_node-items in
    omega (
      arith,
      users_size b,
      users-within clusters c.loop-cluster.cluster c.index-clusters-cluster.result c.loop-cluster-test.true,
      walk-size clusters,
      c.requires,
      c.loop-user-test.true,
    )

pub overflow_cast-home-in-loop-task-2 : goal.overflow_cast-home-in-loop-task-2
overflow_cast-home-in-loop-task-2 c =
    let clusters = c.args.clusters.now in
    let b = (goal.at.overflow_cast-home-in-loop-task-2 c).After-users-user_node-items in
    let d = (goal.at.overflow_cast-home-in-loop-task-2 c).After-jobs-job_node-items in
    let there : c.loop-user.user < length (get_or clusters c.loop-cluster.cluster c.index-clusters-cluster.result).users = omega (arith, users_size b, c.loop-user-test.true) in
    omega (
      arith,
      jobs_size d,
      jobs-within clusters c.loop-cluster.cluster c.index-clusters-cluster.result c.loop-user.user c.user_node-item.result c.loop-cluster-test.true there,
      walk-size clusters,
      c.requires,
      c.loop-job-test.true,
    )

pub returns : goal.returns
returns c =
    let v = c.loop-cluster.invariant in
    let all = counts_of c.args.clusters.now in
    let last : length all ≤ c.loop-cluster.cluster = omega (arith, length-map c.args.clusters.now cluster_counts, c.loop-cluster-test.false) in
    record { size = v.size ∙ ap clusters_count (take_all c.loop-cluster.cluster all last); each = v.each }
