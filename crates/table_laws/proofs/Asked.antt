-- What is handed down to a task is at most what it asks for.
use Rattle.std.proofs.Common.{◌≡◌, ℕ, zero, suc, ◌<◌, ◌≤◌, List, [], ◌∷◌, ◌++◌, length, map, flat_map, zip, get_or, slice_index, None, sym, ap, ◌∙◌, subst, arith, zero-add, le_refl}
use Rattle.std.specs.List.{All, AllZip}
use Rattle.std.proofs.lemmas.List.{get_or-map}
use Rattle.std.proofs.lemmas.List.FromFn.{get_or-map-range_with_len, get_or-range_with_len, length-map-range_with_len}
use Rattle.bwe_specs.specs.Distribution.{distribution, children_sum}
use Rattle.bwe_specs.specs.Filling.{Wan, filling, group_amount}
use Rattle.bwe_specs.specs.Reports.{numbers}
use Rattle.bwe_specs.specs.Tree.{Weighted, Job, User, Cluster, task_value, task_values, job_value, job_values, user_value, user_values, cluster_value, group_value, job_limits, user_limits, cluster_limits}
use Rattle.bwe_specs.specs.TreeFunctions.{IsJob, IsUser, IsCluster, AreClusters}
use Rattle.bwe_specs.specs.Values.{NeverFalls}
use Rattle.bwe_specs.specs.Allocation.{Plan, wan_under, table_under}
use Rattle.bwe_specs.proofs.HandedOut.{AreAtMost, distribution-at_most, Each, each-jobs, each-users, cluster-at}
use Rattle.bwe_specs.proofs.ShareFunctions.{children_sum-is_share_function, cluster_value-is_share_function, node_value-le, task_values-are, job_values-are, user_values-are}
use Rattle.bwe_specs.proofs.Totals.{group_amount-le}
use Rattle.bwe_specs.proofs.Certificates.{filling-right, filling-amounts, last_share-le}
use Rattle.table_laws.specs.Tasks.{JobTask, IsAskedFor, AreAskedFor, AreNumbered, tasks_of_job, tasks_of_user, tasks_of_cluster, tasks_of}

all-append : {X Y : Type 0} (R : X → Y → Type 0) (xs us : List X) (ys vs : List Y) → AllZip R xs ys → AllZip R us vs → AllZip R (xs ++ us) (ys ++ vs)
all-append R [] us [] vs one two = two
all-append R [] us (y ∷ ys) vs one two = absurd one
all-append R (x ∷ xs) us [] vs one two = absurd one
all-append R (x ∷ xs) us (y ∷ ys) vs one two = (one.0, all-append R xs us ys vs one.1 two)

all-at : {X Y : Type 0} (R : X → Y → Type 0) (xs : List X) (ys : List Y) (place : ℕ) (d : X) (e : Y) → AllZip R xs ys → place < length xs → R (get_or xs place d) (get_or ys place e)
all-at R [] ys place d e all lt = absurd (omega (arith, lt))
all-at R (x ∷ xs) [] place d e all lt = absurd all
all-at R (x ∷ xs) (y ∷ ys) zero d e all lt = all.0
all-at R (x ∷ xs) (y ∷ ys) (suc place) d e all lt = all-at R xs ys place d e all.1 (omega (arith, lt))

-- what a task may have at the top
abbrev most : ℕ → (ℕ → ℕ) → JobTask → ℕ
most top demand given = task_value given.function given.task.weight (demand given.task.number) top

abbrev AreAtMostAsked : ℕ → (ℕ → ℕ) → List JobTask → List ℕ → Type 0
AreAtMostAsked top demand given limits = AllZip (λ one limit. limit ≤ most top demand one) given limits

job-tasks : (top : ℕ) (demand : ℕ → ℕ) (job : Job) (tasks : List Weighted) (limits : List ℕ)
    → AreAtMost top (map (λ task. task_value job.task task.weight (demand task.number)) tasks) limits
    → AreAtMostAsked top demand (map (λ task. record { function = job.task; task = task }) tasks) limits
job-tasks top demand job [] [] at_most = tt
job-tasks top demand job [] (limit ∷ limits) at_most = absurd at_most
job-tasks top demand job (task ∷ tasks) [] at_most = absurd at_most
job-tasks top demand job (task ∷ tasks) (limit ∷ limits) at_most = (at_most.0, job-tasks top demand job tasks limits at_most.1)

-- where each child's tasks get at most what they ask for, so do all
children-tasks : {X : Type 0} (Is : X → Type 0) (top : ℕ) (demand : ℕ → ℕ) (tasks : X → List JobTask) (limits : X → ℕ → List ℕ) (value : X → ℕ → ℕ)
    → ((x : X) → Is x → (a : ℕ) → a ≤ value x top → AreAtMostAsked top demand (tasks x) (limits x a))
    → (xs : List X) (amounts : List ℕ) → Each Is xs → AreAtMost top (map value xs) amounts
    → AreAtMostAsked top demand (flat_map tasks xs) (flat_map (λ given. limits given.0 given.1) (zip xs amounts))
children-tasks Is top demand tasks limits value each [] [] are at_most = tt
children-tasks Is top demand tasks limits value each [] (a ∷ amounts) are at_most = absurd at_most
children-tasks Is top demand tasks limits value each (x ∷ xs) [] are at_most = absurd at_most
children-tasks Is top demand tasks limits value each (x ∷ xs) (a ∷ amounts) are at_most =
    all-append (λ one limit. limit ≤ most top demand one) (tasks x) (flat_map tasks xs) (limits x a) (flat_map (λ given. limits given.0 given.1) (zip xs amounts))
    (each x are.0 a at_most.0) (children-tasks Is top demand tasks limits value each xs amounts are.1 at_most.1)

each-clusters : (top : ℕ) (clusters : List Cluster) → AreClusters top clusters → Each (IsCluster top) clusters
each-clusters top [] are = tt
each-clusters top (cluster ∷ clusters) are = (are.0, each-clusters top clusters are.1)

job-asked : (top : ℕ) (demand : ℕ → ℕ) (job : Job) → IsJob top job → (amount : ℕ) → amount ≤ job_value top demand job top
    → AreAtMostAsked top demand (tasks_of_job job) (job_limits top demand job amount)
job-asked top demand job is amount within =
    let are = task_values-are top demand job.task job.tasks is.1 in
    let sums = children_sum-is_share_function top (task_values demand job) are in
    job-tasks top demand job job.tasks (job_limits top demand job amount)
    (distribution-at_most top (task_values demand job) amount are
    (omega (arith, within, node_value-le top job.configured (children_sum (task_values demand job)) top sums (le_refl top))))

user-asked : (top : ℕ) (demand : ℕ → ℕ) (user : User) → IsUser top user → (amount : ℕ) → amount ≤ user_value top demand user top
    → AreAtMostAsked top demand (tasks_of_user user) (user_limits top demand user amount)
user-asked top demand user is amount within =
    let are = job_values-are top demand user.jobs is.1 in
    let sums = children_sum-is_share_function top (job_values top demand user) are in
    children-tasks (IsJob top) top demand tasks_of_job (job_limits top demand) (job_value top demand) (job-asked top demand) user.jobs
    (distribution top (job_values top demand user) amount) (each-jobs top user.jobs is.1)
    (distribution-at_most top (job_values top demand user) amount are
    (omega (arith, within, node_value-le top user.configured (children_sum (job_values top demand user)) top sums (le_refl top))))

cluster-asked : (top : ℕ) (demand : ℕ → ℕ) (cluster : Cluster) → IsCluster top cluster → (amount : ℕ) → amount ≤ cluster_value top demand cluster top
    → AreAtMostAsked top demand (tasks_of_cluster cluster) (cluster_limits top demand cluster amount)
cluster-asked top demand cluster is amount within =
    let are = user_values-are top demand cluster.users is.1 in
    let sums = children_sum-is_share_function top (user_values top demand cluster) are in
    children-tasks (IsUser top) top demand tasks_of_user (user_limits top demand) (user_value top demand) (user-asked top demand) cluster.users
    (distribution top (user_values top demand cluster) amount) (each-users top cluster.users is.1)
    (distribution-at_most top (user_values top demand cluster) amount are
    (omega (arith, within, node_value-le top cluster.configured (children_sum (user_values top demand cluster)) top sums (le_refl top))))

no_users : Cluster
no_users = record { configured = None; users = [] }

-- amounts by group that are each at most the group's value at the top
clusters-at_most : (top : ℕ) (demand : ℕ → ℕ) (clusters : List Cluster) (amounts : List ℕ) → length amounts ≡ length clusters
    → ((group : ℕ) → group < length clusters → get_or amounts group 0 ≤ cluster_value top demand (get_or clusters group (record { configured = None; users = [] })) top)
    → AreAtMost top (map (cluster_value top demand) clusters) amounts
clusters-at_most top demand [] [] count within = tt
clusters-at_most top demand [] (amount ∷ amounts) count within = absurd (omega (arith, count))
clusters-at_most top demand (cluster ∷ clusters) [] count within = absurd (omega (arith, count))
clusters-at_most top demand (cluster ∷ clusters) (amount ∷ amounts) count within =
    (within 0 (omega arith), clusters-at_most top demand clusters amounts (omega (arith, count)) (λ group lt. within (suc group) (omega (arith, lt))))

-- by number: what a list of tasks gets place by place, each task gets at its number
by-number : (top : ℕ) (demand : ℕ → ℕ) (given : List JobTask) (limits : List ℕ) → map (λ one. one.task.number) given ≡ numbers (length given)
    → AreAtMostAsked top demand given limits → All (IsAskedFor top demand limits) given
by-number top demand given limits numbered zipped place d lt =
    let one : JobTask = get_or given place d in
    let number : one.task.number ≡ place =
    sym (get_or-map (λ one. one.task.number) given place d 0 lt) ∙ ap (λ list. get_or list place 0) numbered
    ∙ get_or-range_with_len 0 (length given) place 0 lt ∙ zero-add place in
    let here : get_or limits place 0 ≤ most top demand one = all-at (λ one limit. limit ≤ most top demand one) given limits place d 0 zipped lt in
    let limit : slice_index limits one.task.number ≤ most top demand one = subst (λ n. slice_index limits n ≤ most top demand one) (sym number) here in
    record { demanded = omega (arith, limit); weighted = omega (arith, limit) }

-- whatever the groups' amounts are, as long as none exceeds its group's value at the top
pub clusters-asked : (top : ℕ) (demand : ℕ → ℕ) (clusters : List Cluster) (amounts : List ℕ) → AreClusters top clusters → AreNumbered clusters
    → length amounts ≡ length clusters → ((group : ℕ) → group < length clusters → slice_index amounts group ≤ group_value top demand clusters group top)
    → AreAskedFor top demand clusters (flat_map (λ given. cluster_limits top demand given.0 given.1) (zip clusters amounts))
clusters-asked top demand clusters amounts are numbered count within =
    by-number top demand (tasks_of clusters) (flat_map (λ given. cluster_limits top demand given.0 given.1) (zip clusters amounts)) numbered
    (children-tasks (IsCluster top) top demand tasks_of_cluster (cluster_limits top demand) (cluster_value top demand) (cluster-asked top demand) clusters amounts
    (each-clusters top clusters are) (clusters-at_most top demand clusters amounts count within))

-- the values of a plan's groups grow with the share
pub plan-never_falls : (plan : Plan) (demand : ℕ → ℕ) (capacities : List ℕ) → AreClusters plan.top plan.clusters → NeverFalls (wan_under plan demand capacities)
plan-never_falls plan demand capacities are =
    record { next = λ group share lt. (cluster_value-is_share_function plan.top demand _ (cluster-at plan.top plan.clusters are group)).next share lt }

-- a group of the filling gets at most its value at the top
pub amount-at_most : (wan : Wan) → NeverFalls wan → (group : ℕ) → group_amount wan (filling wan).amounts group ≤ wan.value group wan.top
amount-at_most wan never group =
    let right = filling-right wan never in
    let closings = (filling wan).closings in
    subst (λ amounts. group_amount wan amounts group ≤ wan.value group wan.top) (sym (filling-amounts wan never))
    (group_amount-le wan never group closings wan.top right.0 (last_share-le wan closings right.0) (le_refl wan.top))

pub no-more-than-asked : (plan : Plan) (prefix : ℕ) (demand : ℕ → ℕ) (capacities : List ℕ) → AreClusters plan.top plan.clusters → AreNumbered plan.clusters
    → AreAskedFor plan.top demand plan.clusters (table_under plan prefix demand capacities).limits
no-more-than-asked plan prefix demand capacities are numbered =
    let wan : Wan = wan_under plan demand capacities in
    let amount : ℕ → ℕ = group_amount wan (filling wan).amounts in
    let count = length plan.clusters in
    clusters-asked plan.top demand plan.clusters (map amount (numbers count)) are numbered
    (length-map-range_with_len amount 0 count)
    (λ group lt. subst (λ n. n ≤ wan.value group wan.top) (sym (get_or-map-range_with_len amount 0 count group group 0 lt (zero-add group)))
    (amount-at_most wan (plan-never_falls plan demand capacities are) group))
