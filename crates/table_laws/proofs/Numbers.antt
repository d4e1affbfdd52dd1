-- Other numbers of tasks change no value and no limit.
use Rattle.std.proofs.Common.{◌≡◌, ℕ, List, [], ◌∷◌, ◌++◌, map, flat_map, zip, refl, ◌∙◌, ap, ap₂}
use Rattle.bwe_specs.specs.Distribution.{distribution, children_sum}
use Rattle.bwe_specs.specs.Tree.{Weighted, Job, User, Cluster, node_value, task_value, task_values, job_value, job_values, user_value, user_values, cluster_value, job_limits, user_limits, cluster_limits}
use Rattle.table_laws.specs.Order.{job_renumbered, user_renumbered, cluster_renumbered}

map-renumbered : {X V : Type 0} (renumbered : X → X) (value other : X → V) → ((x : X) → other (renumbered x) ≡ value x) → (xs : List X) → map other (map renumbered xs) ≡ map value xs
map-renumbered renumbered value other same [] = refl
map-renumbered renumbered value other same (x ∷ xs) = ap₂ (λ v vs. v ∷ vs) (same x) (map-renumbered renumbered value other same xs)

pieces-renumbered : {X : Type 0} (renumbered : X → X) (piece other : X → ℕ → List ℕ) → ((x : X) (amount : ℕ) → other (renumbered x) amount ≡ piece x amount) → (xs : List X) (amounts : List ℕ)
    → flat_map (λ given. other given.0 given.1) (zip (map renumbered xs) amounts) ≡ flat_map (λ given. piece given.0 given.1) (zip xs amounts)
pieces-renumbered renumbered piece other same [] amounts = refl
pieces-renumbered renumbered piece other same (x ∷ xs) [] = refl
pieces-renumbered renumbered piece other same (x ∷ xs) (amount ∷ amounts) =
    ap₂ (λ one more. one ++ more) (same x amount) (pieces-renumbered renumbered piece other same xs amounts)

module _ (top : ℕ) (renumber : ℕ → ℕ) (demand other : ℕ → ℕ) (same : (task : ℕ) → other (renumber task) ≡ demand task) where
  task_values-same : (job : Job) → task_values other (job_renumbered renumber job) ≡ task_values demand job
  task_values-same job = go job.tasks where
    go : (tasks : List Weighted) → map (λ (task : Weighted). task_value job.task task.weight (other task.number)) (map (λ (task : Weighted). record { number = renumber task.number; weight = task.weight }) tasks)
        ≡ map (λ (task : Weighted). task_value job.task task.weight (demand task.number)) tasks
    go [] = refl
    go (task ∷ tasks) = ap₂ (λ v vs. v ∷ vs) (ap (λ asked. task_value job.task task.weight asked) (same task.number)) (go tasks)

  job_value-same : (job : Job) → job_value top other (job_renumbered renumber job) ≡ job_value top demand job
  job_value-same job = ap (λ children. node_value top job.configured (children_sum children)) (task_values-same job)

  job_values-same : (user : User) → job_values top other (user_renumbered renumber user) ≡ job_values top demand user
  job_values-same user = map-renumbered (job_renumbered renumber) (job_value top demand) (job_value top other) job_value-same user.jobs

  user_value-same : (user : User) → user_value top other (user_renumbered renumber user) ≡ user_value top demand user
  user_value-same user = ap (λ children. node_value top user.configured (children_sum children)) (job_values-same user)

  user_values-same : (cluster : Cluster) → user_values top other (cluster_renumbered renumber cluster) ≡ user_values top demand cluster
  user_values-same cluster = map-renumbered (user_renumbered renumber) (user_value top demand) (user_value top other) user_value-same cluster.users

  -- a cluster has the same value at each share
  pub cluster_value-same : (cluster : Cluster) → cluster_value top other (cluster_renumbered renumber cluster) ≡ cluster_value top demand cluster
  cluster_value-same cluster = ap (λ children. node_value top cluster.configured (children_sum children)) (user_values-same cluster)

  job_limits-same : (job : Job) (amount : ℕ) → job_limits top other (job_renumbered renumber job) amount ≡ job_limits top demand job amount
  job_limits-same job amount = ap (λ children. distribution top children amount) (task_values-same job)

  user_limits-same : (user : User) (amount : ℕ) → user_limits top other (user_renumbered renumber user) amount ≡ user_limits top demand user amount
  user_limits-same user amount =
      ap (λ children. flat_map (λ given. job_limits top other given.0 given.1) (zip (map (job_renumbered renumber) user.jobs) (distribution top children amount))) (job_values-same user)
      ∙ pieces-renumbered (job_renumbered renumber) (job_limits top demand) (job_limits top other) job_limits-same user.jobs (distribution top (job_values top demand user) amount)

  -- and its tasks get the same limits
  pub cluster_limits-same : (cluster : Cluster) (amount : ℕ) → cluster_limits top other (cluster_renumbered renumber cluster) amount ≡ cluster_limits top demand cluster amount
  cluster_limits-same cluster amount =
      ap (λ children. flat_map (λ given. user_limits top other given.0 given.1) (zip (map (user_renumbered renumber) cluster.users) (distribution top children amount))) (user_values-same cluster)
      ∙ pieces-renumbered (user_renumbered renumber) (user_limits top demand) (user_limits top other) user_limits-same cluster.users (distribution top (user_values top demand cluster) amount)
