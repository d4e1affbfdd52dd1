-- Nodes whose tasks have the same demands have the same values and the same limits.
use Rattle.std.proofs.Common.{◌≡◌, ℕ, List, [], ◌∷◌, ◌++◌, map, flat_map, zip, Contains, refl, sym, ap, ap₂, ◌∙◌, subst, arith}
use Rattle.std.proofs.lemmas.List.Concat.{flat_map-cons}
use Rattle.std.proofs.lemmas.List.Elements.{Contains-append_left, Contains-append_right}
use Rattle.bwe_specs.specs.FunctionValue.{Point}
use Rattle.bwe_specs.specs.Distribution.{children_sum, distribution}
use Rattle.bwe_specs.specs.Tree.{Weighted, Job, User, Cluster, task_value, node_value, job_value, job_values, user_value, user_values, cluster_value, job_limits, user_limits, cluster_limits}
use Rattle.policy_tree.specs.Trees.{job_numbers, user_numbers, cluster_numbers}

module _ (demand other : ℕ → ℕ) where
  -- the demands agree on these tasks
  abbrev pub Agree : List ℕ → Type 0
  Agree tasks = (task : ℕ) → Contains tasks task → demand task ≡ other task

  agree-left : (xs ys : List ℕ) → Agree (xs ++ ys) → Agree xs
  agree-left xs ys agree task inside = agree task (Contains-append_left xs ys task inside)

  agree-right : (xs ys : List ℕ) → Agree (xs ++ ys) → Agree ys
  agree-right xs ys agree task inside = agree task (Contains-append_right xs ys task inside)

  agree-first : {X : Type 0} (numbers : X → List ℕ) (x : X) (xs : List X) → Agree (flat_map numbers (x ∷ xs)) → Agree (numbers x)
  agree-first numbers x xs agree = agree-left (numbers x) (flat_map numbers xs) (subst (λ tasks. Agree tasks) (flat_map-cons numbers x xs) agree)

  agree-later : {X : Type 0} (numbers : X → List ℕ) (x : X) (xs : List X) → Agree (flat_map numbers (x ∷ xs)) → Agree (flat_map numbers xs)
  agree-later numbers x xs agree = agree-right (numbers x) (flat_map numbers xs) (subst (λ tasks. Agree tasks) (flat_map-cons numbers x xs) agree)

  tasks-same : (points : List Point) (tasks : List Weighted) → Agree (map (λ task. task.number) tasks)
      → map (λ task. task_value points task.weight (demand task.number)) tasks ≡ map (λ task. task_value points task.weight (other task.number)) tasks
  tasks-same points [] agree = refl
  tasks-same points (task ∷ tasks) agree =
      ap₂ (λ (value : ℕ → ℕ) (values : List (ℕ → ℕ)). value ∷ values)
      (ap (λ (demand : ℕ). task_value points task.weight demand) (agree-left (task.number ∷ []) (map (λ task. task.number) tasks) agree task.number (0, omega arith, refl)))
      (tasks-same points tasks (agree-right (task.number ∷ []) (map (λ task. task.number) tasks) agree))

  job_value-same : (top : ℕ) (job : Job) → Agree (job_numbers job) → job_value top demand job ≡ job_value top other job
  job_value-same top job agree =
      ap (λ (values : List (ℕ → ℕ)). node_value top job.configured (children_sum values)) (tasks-same job.task job.tasks agree)

  jobs-same : (top : ℕ) (jobs : List Job) → Agree (flat_map job_numbers jobs) → map (job_value top demand) jobs ≡ map (job_value top other) jobs
  jobs-same top [] agree = refl
  jobs-same top (job ∷ jobs) agree =
      ap₂ (λ (value : ℕ → ℕ) (values : List (ℕ → ℕ)). value ∷ values) (job_value-same top job (agree-first job_numbers job jobs agree))
      (jobs-same top jobs (agree-later job_numbers job jobs agree))

  user_value-same : (top : ℕ) (user : User) → Agree (user_numbers user) → user_value top demand user ≡ user_value top other user
  user_value-same top user agree =
      ap (λ (values : List (ℕ → ℕ)). node_value top user.configured (children_sum values)) (jobs-same top user.jobs agree)

  users-same : (top : ℕ) (users : List User) → Agree (flat_map user_numbers users) → map (user_value top demand) users ≡ map (user_value top other) users
  users-same top [] agree = refl
  users-same top (user ∷ users) agree =
      ap₂ (λ (value : ℕ → ℕ) (values : List (ℕ → ℕ)). value ∷ values) (user_value-same top user (agree-first user_numbers user users agree))
      (users-same top users (agree-later user_numbers user users agree))

  -- the values of a cluster
  pub cluster_value-same : (top : ℕ) (cluster : Cluster) → Agree (cluster_numbers cluster) → cluster_value top demand cluster ≡ cluster_value top other cluster
  cluster_value-same top cluster agree =
      ap (λ (values : List (ℕ → ℕ)). node_value top cluster.configured (children_sum values)) (users-same top cluster.users agree)

  job_limits-same : (top : ℕ) (job : Job) (amount : ℕ) → Agree (job_numbers job) → job_limits top demand job amount ≡ job_limits top other job amount
  job_limits-same top job amount agree = ap (λ values. distribution top values amount) (tasks-same job.task job.tasks agree)

  -- pieces of items that agree
  pieces-same : {X : Type 0} (numbers : X → List ℕ) (piece piece' : X × ℕ → List ℕ) → ((x : X) (amount : ℕ) → Agree (numbers x) → piece (x, amount) ≡ piece' (x, amount))
      → (xs : List X) (amounts : List ℕ) → Agree (flat_map numbers xs) → flat_map piece (zip xs amounts) ≡ flat_map piece' (zip xs amounts)
  pieces-same numbers piece piece' same [] [] agree = refl
  pieces-same numbers piece piece' same [] (amount ∷ amounts) agree = refl
  pieces-same numbers piece piece' same (x ∷ xs) [] agree = refl
  pieces-same numbers piece piece' same (x ∷ xs) (amount ∷ amounts) agree =
      flat_map-cons piece (x, amount) (zip xs amounts)
      ∙ ap₂ (λ a b. a ++ b) (same x amount (agree-first numbers x xs agree)) (pieces-same numbers piece piece' same xs amounts (agree-later numbers x xs agree))
      ∙ sym (flat_map-cons piece' (x, amount) (zip xs amounts))

  user_limits-same : (top : ℕ) (user : User) (amount : ℕ) → Agree (user_numbers user) → user_limits top demand user amount ≡ user_limits top other user amount
  user_limits-same top user amount agree =
      ap (λ values. flat_map (λ given. job_limits top demand given.0 given.1) (zip user.jobs (distribution top values amount))) (jobs-same top user.jobs agree)
      ∙ pieces-same job_numbers (λ given. job_limits top demand given.0 given.1) (λ given. job_limits top other given.0 given.1) (job_limits-same top) user.jobs
      (distribution top (job_values top other user) amount) agree

  -- the limits of a cluster's tasks
  pub cluster_limits-same : (top : ℕ) (cluster : Cluster) (amount : ℕ) → Agree (cluster_numbers cluster)
      → cluster_limits top demand cluster amount ≡ cluster_limits top other cluster amount
  cluster_limits-same top cluster amount agree =
      ap (λ values. flat_map (λ given. user_limits top demand given.0 given.1) (zip cluster.users (distribution top values amount))) (users-same top cluster.users agree)
      ∙ pieces-same user_numbers (λ given. user_limits top demand given.0 given.1) (λ given. user_limits top other given.0 given.1) (user_limits-same top) cluster.users
      (distribution top (user_values top other cluster) amount) agree
