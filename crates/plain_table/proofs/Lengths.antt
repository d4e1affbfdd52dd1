-- A table has a limit for each task.
use Rattle.std.proofs.Common.{◌≡◌, ℕ, ◌+◌, List, [], ◌∷◌, flat_map, length, map, zip, sum_by, refl, sym, ◌∙◌, ap, ap₂, arith}
use Rattle.std.proofs.lemmas.List.{length-append, length-map}
use Rattle.std.proofs.lemmas.List.Concat.{flat_map-cons, length-flat_map}
use Rattle.std.proofs.lemmas.List.FromFn.{length-map-range_with_len}
use Rattle.std.proofs.lemmas.List.Sums.{sum_by-cons}
use Rattle.bwe_specs.specs.Distribution.{distribution}
use Rattle.bwe_specs.specs.Tree.{Job, User, Cluster, task_values, job_values, user_values, job_limits, user_limits, cluster_limits}
use Rattle.bwe_specs.specs.Filling.{Wan, State, group_amount}
use Rattle.bwe_specs.specs.Reports.{numbers}
use Rattle.bwe_specs.specs.Allocation.{Plan, limits_of}
use Rattle.bwe_specs.proofs.HandedOut.{length-distribution}
use Rattle.policy_tree.specs.Trees.{job_numbers, user_numbers, cluster_numbers, task_numbers}

-- the pieces of pairs, where the length of a piece is decided by the first of its pair
length-pieces : {X : Type 0} (piece : X × ℕ → List ℕ) (count : X → ℕ)
    → ((x : X) (y : ℕ) → length (piece (x, y)) ≡ count x)
    → (xs : List X) (ys : List ℕ) → length ys ≡ length xs
    → length (flat_map piece (zip xs ys)) ≡ sum_by count xs
length-pieces piece count each [] [] same = refl
length-pieces piece count each [] (y ∷ ys) same = absurd (omega (arith, same))
length-pieces piece count each (x ∷ xs) [] same = absurd (omega (arith, same))
length-pieces piece count each (x ∷ xs) (y ∷ ys) same =
    ap length (flat_map-cons piece (x, y) (zip xs ys))
    ∙ length-append (piece (x, y)) (flat_map piece (zip xs ys))
    ∙ ap₂ (λ a b. a + b) (each x y) (length-pieces piece count each xs ys (omega (arith, same)))
    ∙ sym (sum_by-cons count x xs)

length-job_limits : (top : ℕ) (demand : ℕ → ℕ) (job : Job) (amount : ℕ)
    → length (job_limits top demand job amount) ≡ length (job_numbers job)
length-job_limits top demand job amount =
    length-distribution top (task_values demand job) amount ∙ length-map job.tasks _
    ∙ sym (length-map job.tasks (λ task. task.number))

length-user_limits : (top : ℕ) (demand : ℕ → ℕ) (user : User) (amount : ℕ)
    → length (user_limits top demand user amount) ≡ length (user_numbers user)
length-user_limits top demand user amount =
    length-pieces (λ given. job_limits top demand given.0 given.1) (λ job. length (job_numbers job))
    (length-job_limits top demand) user.jobs
    (distribution top (job_values top demand user) amount)
    (length-distribution top (job_values top demand user) amount ∙ length-map user.jobs _)
    ∙ sym (length-flat_map job_numbers user.jobs)

-- there is a limit for each task of a cluster
pub length-cluster_limits : (top : ℕ) (demand : ℕ → ℕ) (cluster : Cluster) (amount : ℕ)
    → length (cluster_limits top demand cluster amount) ≡ length (cluster_numbers cluster)
length-cluster_limits top demand cluster amount =
    length-pieces (λ given. user_limits top demand given.0 given.1)
    (λ user. length (user_numbers user)) (length-user_limits top demand) cluster.users
    (distribution top (user_values top demand cluster) amount)
    (length-distribution top (user_values top demand cluster) amount ∙ length-map cluster.users _)
    ∙ sym (length-flat_map user_numbers cluster.users)

-- there is a limit for each task
pub length-limits_of : (plan : Plan) (demand : ℕ → ℕ) (wan : Wan) (final : State)
    → length (limits_of plan demand wan final) ≡ length (task_numbers plan.clusters)
length-limits_of plan demand wan final =
    length-pieces (λ given. cluster_limits plan.top demand given.0 given.1)
    (λ cluster. length (cluster_numbers cluster)) (length-cluster_limits plan.top demand)
    plan.clusters
    (map (group_amount wan final.amounts) (numbers (length plan.clusters)))
    (length-map-range_with_len (group_amount wan final.amounts) 0 (length plan.clusters))
    ∙ sym (length-flat_map cluster_numbers plan.clusters)
