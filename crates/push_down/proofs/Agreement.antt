-- The limits by the kept nodes are those of the definitions.
use Rattle.std.proofs.Common.{◌≡◌, ℕ, suc, ◌+◌, ◌-◌, ◌<◌, min, List, [], ◌∷◌, ◌++◌, length, get_or, drop, map, flat_map, zip, sum_by, All, refl, sym, ◌∙◌, ap, ap₂, arith, subst, add-one, nat_le}
use Rattle.std.proofs.lemmas.List.{length-append, length-map, append_assoc, drop_more}
use Rattle.std.proofs.lemmas.List.Sums.{sum_by-cons}
use Rattle.std.proofs.lemmas.List.Elements.{All-head, All-tail}
use Rattle.bwe_specs.specs.Tree.{job_limits, user_limits, cluster_limits}
use Rattle.bwe_specs.specs.Bounded.{greatest_upto}
use Rattle.bwe_specs.specs.Distribution.{children_sum, common_share, handed_out, distribution}
use Rattle.bwe_specs.proofs.HandedOut.{length-distribution}
use Rattle.policy_tree.specs.Nodes.{Agrees}
use Rattle.policy_tree.specs.States.{JobState, UserState, ClusterState, job_tasks, user_tasks, cluster_tasks, job_meaning, user_meaning}
use Rattle.tree_spec.specs.Numbering.{numbered}
use Rattle.policy_tree.specs.Numbering.{numbered_job, numbered_jobs, numbered_user, numbered_users, numbered_cluster, job_demands, user_demands, cluster_demands}
use Rattle.policy_tree.specs.Kept.{HaveJobTop, HaveUserTop, HaveClusterTop}
use Rattle.policy_tree.proofs.Agreement.{length-job_demands, length-user_demands, tasks-agree, jobs-agree, users-agree}
use Rattle.policy_tree.proofs.Numbers.{agrees-left, agrees-right}
use Rattle.push_down.specs.Limits.{limits_of_job, limits_of_user, limits_of_cluster, tasks_values}

-- nodes that are handed the same amounts give the same limits
limits-agree : {X Y : Type 0} (tasks : X → ℕ) (item : ℕ → X → Y) (demands : X → List ℕ) (limits : Y → ℕ → List ℕ) (limits' : X → ℕ → List ℕ) (P : X → Type 0) (demand : ℕ → ℕ)
    → ((x : X) → length (demands x) ≡ tasks x)
    → ((first : ℕ) (x : X) → P x → Agrees demand first (demands x) → (amount : ℕ) → limits (item first x) amount ≡ limits' x amount)
    → (first : ℕ) (xs : List X) (amounts : List ℕ) → All P xs → Agrees demand first (flat_map demands xs)
    → flat_map (λ given. limits given.0 given.1) (zip (numbered tasks item first xs) amounts) ≡ flat_map (λ given. limits' given.0 given.1) (zip xs amounts)
unfolding numbered
limits-agree tasks item demands limits limits' P demand size same first [] amounts all agrees = refl
limits-agree tasks item demands limits limits' P demand size same first (x ∷ xs) [] all agrees = refl
limits-agree tasks item demands limits limits' P demand size same first (x ∷ xs) (amount ∷ amounts) all agrees =
    ap₂ (λ head rest. head ++ rest)
    (same first x (All-head P x xs all) (agrees-left demand first (demands x) (flat_map demands xs) agrees) amount)
    (limits-agree tasks item demands limits limits' P demand size same (first + tasks x) xs amounts (All-tail P x xs all)
    (subst (λ n. Agrees demand (first + n) (flat_map demands xs)) (size x) (agrees-right demand first (demands x) (flat_map demands xs) agrees)))

job-limits : (top : ℕ) (demand : ℕ → ℕ) (first : ℕ) (job : JobState) → HaveJobTop top job → Agrees demand first (job_demands job) → (amount : ℕ)
    → job_limits top demand (numbered_job first job) amount ≡ limits_of_job top job amount
job-limits top demand first job has agrees amount = ap (λ (values : List (ℕ → ℕ)). distribution top values amount) (tasks-agree job.sum.function.points demand first job.sum.tasks agrees)

user-limits : (top : ℕ) (demand : ℕ → ℕ) (first : ℕ) (user : UserState) → HaveUserTop top user → Agrees demand first (user_demands user) → (amount : ℕ)
    → user_limits top demand (numbered_user first user) amount ≡ limits_of_user top user amount
user-limits top demand first user has agrees amount =
    ap (λ (values : List (ℕ → ℕ)). flat_map (λ given. job_limits top demand given.0 given.1) (zip (numbered_jobs first user.jobs) (distribution top values amount))) (jobs-agree top demand first user.jobs has.jobs agrees)
    ∙ limits-agree job_tasks numbered_job job_demands (job_limits top demand) (limits_of_job top) (HaveJobTop top) demand length-job_demands (job-limits top demand) first user.jobs (distribution top (map job_meaning user.jobs) amount) has.jobs agrees

pub cluster-limits : (top : ℕ) (demand : ℕ → ℕ) (first : ℕ) (cluster : ClusterState) → HaveClusterTop top cluster → Agrees demand first (cluster_demands cluster) → (amount : ℕ)
    → cluster_limits top demand (numbered_cluster first cluster) amount ≡ limits_of_cluster top cluster amount
cluster-limits top demand first cluster has agrees amount =
    ap (λ (values : List (ℕ → ℕ)). flat_map (λ given. user_limits top demand given.0 given.1) (zip (numbered_users first cluster.users) (distribution top values amount))) (users-agree top demand first cluster.users has.users agrees)
    ∙ limits-agree user_tasks numbered_user user_demands (user_limits top demand) (limits_of_user top) (HaveUserTop top) demand length-user_demands (user-limits top demand) first cluster.users (distribution top (map user_meaning cluster.users) amount) has.users agrees

-- there is a limit for each task
length-limits : {X : Type 0} (tasks : X → ℕ) (limits : X → ℕ → List ℕ) → ((x : X) (amount : ℕ) → length (limits x amount) ≡ tasks x)
    → (xs : List X) (amounts : List ℕ) → length amounts ≡ length xs → length (flat_map (λ given. limits given.0 given.1) (zip xs amounts)) ≡ sum_by tasks xs
length-limits tasks limits same [] amounts size = refl
length-limits tasks limits same (x ∷ xs) [] size = absurd (omega arith)
length-limits tasks limits same (x ∷ xs) (amount ∷ amounts) size =
    omega (
      arith,
      length-append (limits x amount) (flat_map (λ (given : _). limits given.0 given.1) (zip xs amounts)),
      same x amount,
      sum_by-cons tasks x xs,
      length-limits tasks limits same xs amounts (omega arith),
    )

length-job : (top : ℕ) (job : JobState) (amount : ℕ) → length (limits_of_job top job amount) ≡ job_tasks job
length-job top job amount = length-distribution top (tasks_values job.sum) amount ∙ length-map job.sum.tasks _

length-user : (top : ℕ) (user : UserState) (amount : ℕ) → length (limits_of_user top user amount) ≡ user_tasks user
length-user top user amount =
    length-limits job_tasks (limits_of_job top) (length-job top) user.jobs (distribution top (map job_meaning user.jobs) amount)
    (length-distribution top (map job_meaning user.jobs) amount ∙ length-map user.jobs job_meaning)

pub length-cluster : (top : ℕ) (cluster : ClusterState) (amount : ℕ) → length (limits_of_cluster top cluster amount) ≡ cluster_tasks cluster
length-cluster top cluster amount =
    length-limits user_tasks (limits_of_user top) (length-user top) cluster.users (distribution top (map user_meaning cluster.users) amount)
    (length-distribution top (map user_meaning cluster.users) amount ∙ length-map cluster.users user_meaning)

-- one child more is handed its part
pub handed_out-cons : (child : ℕ → ℕ) (children : List (ℕ → ℕ)) (share rest : ℕ)
    → handed_out (child ∷ children) share rest ≡ (child share + min rest (child (suc share) - child share)) ∷ handed_out children share (rest - min rest (child (suc share) - child share))
unfolding handed_out
handed_out-cons child children share rest = refl

pub distribution-by_share : (top : ℕ) (children : List (ℕ → ℕ)) (amount : ℕ)
    → distribution top children amount ≡ handed_out children (common_share top children amount) (amount - children_sum children (common_share top children amount))
unfolding distribution
distribution-by_share top children amount = refl

-- so a loop that hands out goes on
pub handed-more : (values : List (ℕ → ℕ)) (place share rest value more : ℕ) (items : List ℕ) → place < length values
    → value ≡ get_or values place (λ s. 0) share → more ≡ min rest (get_or values place (λ s. 0) (share + 1) - value)
    → (items ++ (value + more) ∷ []) ++ handed_out (drop (place + 1) values) share (rest - more) ≡ items ++ handed_out (drop place values) share rest
handed-more values place share rest value more items lt is_value is_more =
    let child = get_or values place (λ s. 0) in
    let same : more ≡ min rest (child (suc share) - child share) = is_more ∙ ap₂ (λ next here. min rest (next - here)) (ap child (add-one share)) is_value in
    append_assoc items ((value + more) ∷ []) (handed_out (drop (place + 1) values) share (rest - more))
    ∙ ap (λ tail. items ++ tail)
    (ap₂ (λ (v : ℕ) (m : ℕ). (v + m) ∷ handed_out (drop (place + 1) values) share (rest - m)) is_value same
    ∙ sym (handed_out-cons child (drop (place + 1) values) share rest)
    ∙ ap (λ (list : List (ℕ → ℕ)). handed_out list share rest) (sym (drop_more values place (λ s. 0) lt)))

pub handed-end : (share rest : ℕ) → handed_out [] share rest ≡ []
unfolding handed_out
handed-end share rest = refl

pub common_share-by_sum : (top : ℕ) (children : List (ℕ → ℕ)) (amount : ℕ) → common_share top children amount ≡ greatest_upto top (λ t. nat_le (children_sum children t) amount)
unfolding common_share
common_share-by_sum top children amount = refl
