-- Every node's value is a share function, and at most what its tasks may ask for.
use Rattle.std.proofs.Common.{◌≡◌, ℕ, ◌*◌, ◌≤◌, List, [], ◌∷◌, length, map, Option, Some, None, sum_by, All, refl, arith, le_refl}
use Rattle.std.proofs.lemmas.List.Sums.{sum_by-cons}
use Rattle.std.proofs.lemmas.List.Elements.{All-head, All-tail}
use Rattle.bwe_specs.specs.Tree.{task_value, inner_share}
use Rattle.bwe_specs.specs.Distribution.{children_sum}
use Rattle.bwe_specs.proofs.ShareFunctions.{sum-cons}
use Rattle.bw_function.specs.BwFunction.{Function}
use Rattle.function_sum.specs.Meaning.{IsMeaning}
use Rattle.tree_spec.specs.declared.task.Task.{Task}
use Rattle.tree_spec.specs.Tasks.{IsInRange, Tasks, tasks_value}
use Rattle.capped_sum.proofs.Meanings.{tasks-meaning}
use Rattle.tree_spec.specs.States.{transformed}
use Rattle.policy_tree.specs.States.{JobState, UserState, ClusterState, job_tasks, user_tasks, cluster_tasks, job_meaning, jobs_meaning, user_meaning, users_meaning, cluster_meaning, IsJobState, IsUserState, IsClusterState}
use Rattle.policy_tree.proofs.Transforms.{transformed-meaning}

-- a value that a bound holds for at every share is bounded so under a configured function too
transformed-most : (configured : Option Function) (sum : ℕ → ℕ) (most : ℕ) → ((share : ℕ) → sum share ≤ most) → (share : ℕ) → transformed configured sum share ≤ most
unfolding transformed
transformed-most None sum most within share = within share
transformed-most (Some function) sum most within share = within (inner_share function.top function.points sum share)

tasks-most : (sum : Tasks) (tasks : List Task) → All IsInRange tasks → (share : ℕ)
    → sum_by (λ task. task_value sum.function.points task.weight task.demand share) tasks ≤ length tasks * 1_000_000_000_000
tasks-most sum [] all share = le_refl 0
tasks-most sum (task ∷ tasks) all share =
    omega (
      arith,
      sum_by-cons (λ task. task_value sum.function.points task.weight task.demand share) task tasks,
      (All-head IsInRange task tasks all).demand,
      tasks-most sum tasks (All-tail IsInRange task tasks all) share,
    )

-- the same of a list of nodes
pub nodes-most : {X : Type 0} (meaning : X → ℕ → ℕ) (size : X → ℕ) (P : X → Type 0) → ((x : X) → P x → (share : ℕ) → meaning x share ≤ size x * 1_000_000_000_000)
    → (nodes : List X) → All P nodes → (share : ℕ) → children_sum (map meaning nodes) share ≤ sum_by size nodes * 1_000_000_000_000
nodes-most meaning size P most [] all share = le_refl 0
nodes-most meaning size P most (node ∷ nodes) all share =
    omega (
      arith,
      sum-cons (meaning node) (map meaning nodes) share,
      sum_by-cons size node nodes,
      most node (All-head P node nodes all) share,
      nodes-most meaning size P most nodes (All-tail P node nodes all) share,
    )

-- a sum of share functions that stays small is one
nodes-start : {X : Type 0} (meaning : X → ℕ → ℕ) (P : X → Type 0) → ((x : X) → P x → IsMeaning (meaning x))
    → (nodes : List X) → All P nodes → children_sum (map meaning nodes) 0 ≡ 0
nodes-start meaning P is [] all = refl
nodes-start meaning P is (node ∷ nodes) all =
    omega (arith, sum-cons (meaning node) (map meaning nodes) 0, (is node (All-head P node nodes all)).starts, nodes-start meaning P is nodes (All-tail P node nodes all))

nodes-grow : {X : Type 0} (meaning : X → ℕ → ℕ) (P : X → Type 0) → ((x : X) → P x → IsMeaning (meaning x))
    → (nodes : List X) → All P nodes → (s t : ℕ) → s ≤ t → children_sum (map meaning nodes) s ≤ children_sum (map meaning nodes) t
nodes-grow meaning P is [] all s t le = le_refl 0
nodes-grow meaning P is (node ∷ nodes) all s t le =
    omega (
      arith,
      sum-cons (meaning node) (map meaning nodes) s,
      sum-cons (meaning node) (map meaning nodes) t,
      (is node (All-head P node nodes all)).grows s t le,
      nodes-grow meaning P is nodes (All-tail P node nodes all) s t le,
    )

nodes-meaning : {X : Type 0} (meaning : X → ℕ → ℕ) (size : X → ℕ) (P : X → Type 0) → ((x : X) → P x → IsMeaning (meaning x))
    → ((x : X) → P x → (share : ℕ) → meaning x share ≤ size x * 1_000_000_000_000)
    → (nodes : List X) → All P nodes → sum_by size nodes ≤ 1_048_576 → IsMeaning (children_sum (map meaning nodes))
nodes-meaning meaning size P is most nodes all few = record {
  starts = nodes-start meaning P is nodes all;
  grows = nodes-grow meaning P is nodes all;
  bound = λ share. omega (arith, nodes-most meaning size P most nodes all share);
}

pub job-most : (job : JobState) → IsJobState job → (share : ℕ) → job_meaning job share ≤ job_tasks job * 1_000_000_000_000
job-most job is = transformed-most job.configured (tasks_value job.sum) (job_tasks job * 1_000_000_000_000) (tasks-most job.sum job.sum.tasks is.small.each)

pub job-meaning : (job : JobState) → IsJobState job → IsMeaning (job_meaning job)
job-meaning job is = transformed-meaning job.configured (tasks_value job.sum) is.configured (tasks-meaning job.sum is.function is.small)

pub jobs-meaning : (user : UserState) → IsUserState user → IsMeaning (jobs_meaning user.jobs)
jobs-meaning user is = nodes-meaning job_meaning job_tasks IsJobState job-meaning job-most user.jobs is.jobs is.few

pub user-most : (user : UserState) → IsUserState user → (share : ℕ) → user_meaning user share ≤ user_tasks user * 1_000_000_000_000
user-most user is =
    transformed-most user.configured (jobs_meaning user.jobs) (user_tasks user * 1_000_000_000_000) (nodes-most job_meaning job_tasks IsJobState job-most user.jobs is.jobs)

pub user-meaning : (user : UserState) → IsUserState user → IsMeaning (user_meaning user)
user-meaning user is = transformed-meaning user.configured (jobs_meaning user.jobs) is.configured (jobs-meaning user is)

pub users-meaning : (cluster : ClusterState) → IsClusterState cluster → IsMeaning (users_meaning cluster.users)
users-meaning cluster is = nodes-meaning user_meaning user_tasks IsUserState user-meaning user-most cluster.users is.users is.few

pub cluster-most : (cluster : ClusterState) → IsClusterState cluster → (share : ℕ) → cluster_meaning cluster share ≤ cluster_tasks cluster * 1_000_000_000_000
cluster-most cluster is =
    transformed-most cluster.configured (users_meaning cluster.users) (cluster_tasks cluster * 1_000_000_000_000) (nodes-most user_meaning user_tasks IsUserState user-most cluster.users is.users)

pub cluster-meaning : (cluster : ClusterState) → IsClusterState cluster → IsMeaning (cluster_meaning cluster)
cluster-meaning cluster is = transformed-meaning cluster.configured (users_meaning cluster.users) is.configured (users-meaning cluster is)

-- the children's sum, child by child
pub nodes-sum : {X : Type 0} (meaning : X → ℕ → ℕ) (nodes : List X) (share : ℕ) → children_sum (map meaning nodes) share ≡ sum_by (λ node. meaning node share) nodes
nodes-sum meaning [] share = refl
nodes-sum meaning (node ∷ nodes) share =
    omega (arith, sum-cons (meaning node) (map meaning nodes) share, sum_by-cons (λ node. meaning node share) node nodes, nodes-sum meaning nodes share)
