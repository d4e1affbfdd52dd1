-- A node's value is that of the definitions, under the demands of the tree.
use Rattle.std.proofs.Common.{◌≡◌, ℕ, suc, ◌+◌, List, [], ◌∷◌, length, map, flat_map, Option, Some, None, sum_by, All, refl, sym, ◌∙◌, ap, ap₂, arith, add-zero}
use Rattle.std.proofs.Math.Path.{fun_ext}
use Rattle.std.proofs.lemmas.List.{length-map}
use Rattle.std.proofs.lemmas.List.Concat.{length-flat_map}
use Rattle.std.proofs.lemmas.List.Sums.{sum_by-cons}
use Rattle.bwe_specs.specs.FunctionValue.{Point}
use Rattle.bwe_specs.specs.Tree.{task_value, node_value, inner_share, task_values, job_value, job_values, user_value, user_values, cluster_value}
use Rattle.bwe_specs.specs.Distribution.{children_sum}
use Rattle.bw_function.specs.BwFunction.{Function}
use Rattle.tree_spec.specs.declared.task.Task.{Task}
use Rattle.tree_spec.specs.Tasks.{tasks_value}
use Rattle.tree_spec.specs.States.{transformed}
use Rattle.policy_tree.specs.States.{JobState, UserState, ClusterState, job_tasks, user_tasks, cluster_tasks, job_meaning, jobs_meaning, user_meaning, users_meaning, cluster_meaning}
use Rattle.policy_tree.specs.Asked.{HasTop}
use Rattle.tree_spec.specs.Numbering.{numbered}
use Rattle.policy_tree.specs.Numbering.{points_by, numbered_tasks, numbered_job, numbered_jobs, numbered_user, numbered_users, numbered_cluster, job_demands, user_demands, cluster_demands}
use Rattle.policy_tree.specs.Kept.{HaveJobTop, HaveUserTop, HaveClusterTop}
use Rattle.policy_tree.proofs.Meanings.{nodes-sum}
use Rattle.policy_tree.specs.Nodes.{Agrees}
use Rattle.policy_tree.proofs.Numbers.{values-agree}

-- there are as many demands as tasks
pub length-job_demands : (job : JobState) → length (job_demands job) ≡ job_tasks job
length-job_demands job = length-map job.sum.tasks (λ task. task.demand)

pub lengths-same : {X : Type 0} (demands : X → List ℕ) (tasks : X → ℕ) → ((x : X) → length (demands x) ≡ tasks x) → (xs : List X) → length (flat_map demands xs) ≡ sum_by tasks xs
lengths-same demands tasks same [] = refl
lengths-same demands tasks same (x ∷ xs) =
    omega (arith, length-flat_map demands (x ∷ xs), length-flat_map demands xs, sum_by-cons (λ y. length (demands y)) x xs, sum_by-cons tasks x xs, same x, lengths-same demands tasks same xs)

pub length-user_demands : (user : UserState) → length (user_demands user) ≡ user_tasks user
length-user_demands user = lengths-same job_demands job_tasks length-job_demands user.jobs

pub length-cluster_demands : (cluster : ClusterState) → length (cluster_demands cluster) ≡ cluster_tasks cluster
length-cluster_demands cluster = lengths-same user_demands user_tasks length-user_demands cluster.users

pub length-demands : (clusters : List ClusterState) → length (flat_map cluster_demands clusters) ≡ sum_by cluster_tasks clusters
length-demands clusters = lengths-same cluster_demands cluster_tasks length-cluster_demands clusters

-- a node's value by its configured function
node-agrees : (top : ℕ) (configured : Option Function) (sum sum' : ℕ → ℕ) → HasTop top configured → sum ≡ sum' → node_value top (points_by configured) sum ≡ transformed configured sum'
unfolding node_value transformed
node-agrees top None sum sum' has same = same
node-agrees top (Some function) sum sum' has same =
    ap₂ {C = ℕ → ℕ} (λ t s share. s (inner_share t function.points s share)) (sym has) same

-- the values of a job's tasks
pub tasks-agree : (points : List Point) (demand : ℕ → ℕ) (first : ℕ) (tasks : List Task) → Agrees demand first (map (λ task. task.demand) tasks)
    → map (λ task. task_value points task.weight (demand task.number)) (numbered_tasks first tasks) ≡ map (λ (task : Task). task_value points task.weight task.demand) tasks
unfolding numbered
tasks-agree points demand first [] agrees = refl
tasks-agree points demand first (task ∷ tasks) agrees =
    let here : demand first ≡ task.demand = ap demand (sym (add-zero first)) ∙ agrees.at 0 (omega arith) in
    let later : Agrees demand (first + 1) (map (λ task. task.demand) tasks) =
    record { at = λ place lt. let sums : first + 1 + place ≡ first + suc place = omega arith in ap demand sums ∙ agrees.at (suc place) (omega arith) } in
    ap₂ (λ head rest. head ∷ rest) (ap (λ asked. task_value points task.weight asked) here) (tasks-agree points demand (first + 1) tasks later)

pub job-agrees : (top : ℕ) (demand : ℕ → ℕ) (first : ℕ) (job : JobState) → HaveJobTop top job → Agrees demand first (job_demands job) → job_value top demand (numbered_job first job) ≡ job_meaning job
job-agrees top demand first job has agrees =
    let points = job.sum.function.points in
    node-agrees top job.configured (children_sum (task_values demand (numbered_job first job))) (tasks_value job.sum) has.configured
    (ap {B = ℕ → ℕ} (λ values share. children_sum values share) (tasks-agree points demand first job.sum.tasks agrees)
    ∙ fun_ext (λ share. nodes-sum (λ (task : Task). task_value points task.weight task.demand) job.sum.tasks share))

pub jobs-agree : (top : ℕ) (demand : ℕ → ℕ) (first : ℕ) (jobs : List JobState) → All (HaveJobTop top) jobs → Agrees demand first (flat_map job_demands jobs)
    → map (job_value top demand) (numbered_jobs first jobs) ≡ map job_meaning jobs
jobs-agree top demand = values-agree job_tasks numbered_job job_demands (job_value top demand) job_meaning (HaveJobTop top) demand length-job_demands (job-agrees top demand)

pub user-agrees : (top : ℕ) (demand : ℕ → ℕ) (first : ℕ) (user : UserState) → HaveUserTop top user → Agrees demand first (user_demands user) → user_value top demand (numbered_user first user) ≡ user_meaning user
user-agrees top demand first user has agrees =
    node-agrees top user.configured (children_sum (job_values top demand (numbered_user first user))) (jobs_meaning user.jobs) has.configured
    (ap {B = ℕ → ℕ} (λ values share. children_sum values share) (jobs-agree top demand first user.jobs has.jobs agrees))

pub users-agree : (top : ℕ) (demand : ℕ → ℕ) (first : ℕ) (users : List UserState) → All (HaveUserTop top) users → Agrees demand first (flat_map user_demands users)
    → map (user_value top demand) (numbered_users first users) ≡ map user_meaning users
users-agree top demand = values-agree user_tasks numbered_user user_demands (user_value top demand) user_meaning (HaveUserTop top) demand length-user_demands (user-agrees top demand)

pub cluster-agrees : (top : ℕ) (demand : ℕ → ℕ) (first : ℕ) (cluster : ClusterState) → HaveClusterTop top cluster → Agrees demand first (cluster_demands cluster)
    → cluster_value top demand (numbered_cluster first cluster) ≡ cluster_meaning cluster
cluster-agrees top demand first cluster has agrees =
    node-agrees top cluster.configured (children_sum (user_values top demand (numbered_cluster first cluster))) (users_meaning cluster.users) has.configured
    (ap {B = ℕ → ℕ} (λ values share. children_sum values share) (users-agree top demand first cluster.users has.users agrees))

pub clusters-agree : (top : ℕ) (demand : ℕ → ℕ) (first : ℕ) (clusters : List ClusterState) → All (HaveClusterTop top) clusters → Agrees demand first (flat_map cluster_demands clusters)
    → map (cluster_value top demand) (numbered cluster_tasks numbered_cluster first clusters) ≡ map cluster_meaning clusters
clusters-agree top demand = values-agree cluster_tasks numbered_cluster cluster_demands (cluster_value top demand) cluster_meaning (HaveClusterTop top) demand length-cluster_demands (cluster-agrees top demand)
