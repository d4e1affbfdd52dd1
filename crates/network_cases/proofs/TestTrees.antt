-- How many nodes and tasks the trees of the tests have.
use Rattle.std.proofs.Common.{◌≡◌, suc, ◌+◌, List, [], ◌∷◌, ◌++◌, length, flat_map, sum_by, refl, ap, arith}
use Rattle.std.proofs.lemmas.List.{length-append}
use Rattle.std.proofs.lemmas.List.Sums.{sum_by-cons}
use Rattle.tree_spec.specs.declared.spec.JobSpec.{JobSpec}
use Rattle.tree_spec.specs.declared.spec.UserSpec.{UserSpec}
use Rattle.tree_spec.specs.declared.spec.ClusterSpec.{ClusterSpec}
use Rattle.policy_tree.specs.Asked.{job_weights, user_weights, cluster_weights}
use Rattle.policy_tree.specs.Childless.{job_childless, user_childless, cluster_childless}

jobs-nodes : (jobs : List JobSpec) → length (flat_map job_childless jobs) ≡ length jobs
jobs-nodes [] = refl
jobs-nodes (job ∷ jobs) = ap suc (jobs-nodes jobs)

-- one cluster with one user
pub one-nodes : (cluster : ClusterSpec) (user : UserSpec) (clusters : List ClusterSpec) → clusters ≡ cluster ∷ [] → cluster.users.items ≡ user ∷ []
    → length (flat_map cluster_childless clusters) ≡ length user.jobs.items + 2
one-nodes cluster user clusters one one_user =
    let a = ap (λ (specs : List ClusterSpec). length (flat_map cluster_childless specs)) one in
    let b = ap (λ (specs : List UserSpec). length (flat_map user_childless specs)) one_user in
    omega (arith, a, length-append (cluster_childless cluster) [], b, length-append (user_childless user) [], jobs-nodes user.jobs.items)

pub one-tasks : (cluster : ClusterSpec) (user : UserSpec) (clusters : List ClusterSpec) → clusters ≡ cluster ∷ [] → cluster.users.items ≡ user ∷ []
    → sum_by cluster_weights clusters ≡ sum_by job_weights user.jobs.items
one-tasks cluster user clusters one one_user =
    let a = ap (λ (specs : List ClusterSpec). sum_by cluster_weights specs) one in
    let b = ap (λ (specs : List UserSpec). sum_by user_weights specs) one_user in
    omega (arith, a, sum_by-cons cluster_weights cluster [], b, sum_by-cons user_weights user [])

-- one cluster without users
pub none-nodes : (cluster : ClusterSpec) (clusters : List ClusterSpec) → clusters ≡ cluster ∷ [] → cluster.users.items ≡ [] → length (flat_map cluster_childless clusters) ≡ 1
none-nodes cluster clusters one none =
    let a = ap (λ (specs : List ClusterSpec). length (flat_map cluster_childless specs)) one in
    let b = ap (λ (specs : List UserSpec). length (flat_map user_childless specs)) none in
    omega (arith, a, length-append (cluster_childless cluster) [], b)

pub none-tasks : (cluster : ClusterSpec) (clusters : List ClusterSpec) → clusters ≡ cluster ∷ [] → cluster.users.items ≡ [] → sum_by cluster_weights clusters ≡ 0
none-tasks cluster clusters one none =
    let a = ap (λ (specs : List ClusterSpec). sum_by cluster_weights specs) one in
    let b = ap (λ (specs : List UserSpec). sum_by user_weights specs) none in
    omega (arith, a, sum_by-cons cluster_weights cluster [], b)

-- two clusters
pub two-nodes : (first second : ClusterSpec) (clusters : List ClusterSpec) → clusters ≡ first ∷ second ∷ [] → length (flat_map cluster_childless clusters) ≡ length (cluster_childless first) + length (cluster_childless second)
two-nodes first second clusters two =
    let a = ap (λ (specs : List ClusterSpec). length (flat_map cluster_childless specs)) two in
    omega (arith, a, length-append (cluster_childless first) (cluster_childless second ++ []), length-append (cluster_childless second) [])

pub two-tasks : (first second : ClusterSpec) (clusters : List ClusterSpec) → clusters ≡ first ∷ second ∷ [] → sum_by cluster_weights clusters ≡ cluster_weights first + cluster_weights second
two-tasks first second clusters two =
    let a = ap (λ (specs : List ClusterSpec). sum_by cluster_weights specs) two in
    omega (arith, a, sum_by-cons cluster_weights first (second ∷ []), sum_by-cons cluster_weights second [])
