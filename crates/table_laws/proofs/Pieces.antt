-- The limits of a cluster's tasks stand in a table at the numbers of the tasks.
use Rattle.std.proofs.Common.{◌≡◌, ℕ, zero, suc, ◌+◌, ◌<◌, List, [], ◌∷◌, ◌++◌, length, map, flat_map, zip, take, drop, get_or, slice_index, refl, sym, ◌∙◌, ap, ap₂, arith, zero-add}
use Rattle.std.proofs.lemmas.List.{take_at, drop_at, length-append, length-map, get_or-map, get_or_default, same_lists, map-append}
use Rattle.std.proofs.lemmas.List.FromFn.{get_or-range_with_len}
use Rattle.bwe_specs.specs.Distribution.{distribution}
use Rattle.bwe_specs.specs.Reports.{numbers}
use Rattle.bwe_specs.specs.Tree.{Job, User, Cluster, task_values, job_values, user_values, job_limits, user_limits, cluster_limits}
use Rattle.table_laws.specs.Tasks.{JobTask, AreNumbered, tasks_of_job, tasks_of_user, tasks_of_cluster, tasks_of}
use Rattle.bwe_specs.proofs.HandedOut.{length-distribution}

-- pieces of one length each, of the children of a node and of what each gets
length-pieces : {X Y : Type 0} (piece : X → ℕ → List ℕ) (tasks : X → List Y) → ((x : X) (amount : ℕ) → length (piece x amount) ≡ length (tasks x))
    → (xs : List X) (amounts : List ℕ) → length amounts ≡ length xs → length (flat_map (λ given. piece given.0 given.1) (zip xs amounts)) ≡ length (flat_map tasks xs)
length-pieces piece tasks each [] [] count = refl
length-pieces piece tasks each [] (amount ∷ amounts) count = absurd (omega (arith, count))
length-pieces piece tasks each (x ∷ xs) [] count = absurd (omega (arith, count))
length-pieces piece tasks each (x ∷ xs) (amount ∷ amounts) count =
    length-append (piece x amount) (flat_map (λ given. piece given.0 given.1) (zip xs amounts))
    ∙ ap₂ (λ a b. a + b) (each x amount) (length-pieces piece tasks each xs amounts (omega (arith, count)))
    ∙ sym (length-append (tasks x) (flat_map tasks xs))

length-job_limits : (top : ℕ) (demand : ℕ → ℕ) (job : Job) (amount : ℕ) → length (job_limits top demand job amount) ≡ length (tasks_of_job job)
length-job_limits top demand job amount =
    length-distribution top (task_values demand job) amount ∙ length-map job.tasks _ ∙ sym (length-map job.tasks _)

length-user_limits : (top : ℕ) (demand : ℕ → ℕ) (user : User) (amount : ℕ) → length (user_limits top demand user amount) ≡ length (tasks_of_user user)
length-user_limits top demand user amount =
    length-pieces (job_limits top demand) tasks_of_job (length-job_limits top demand) user.jobs (distribution top (job_values top demand user) amount)
    (length-distribution top (job_values top demand user) amount ∙ length-map user.jobs _)

length-cluster_limits : (top : ℕ) (demand : ℕ → ℕ) (cluster : Cluster) (amount : ℕ) → length (cluster_limits top demand cluster amount) ≡ length (tasks_of_cluster cluster)
length-cluster_limits top demand cluster amount =
    length-pieces (user_limits top demand) tasks_of_user (length-user_limits top demand) cluster.users (distribution top (user_values top demand cluster) amount)
    (length-distribution top (user_values top demand cluster) amount ∙ length-map cluster.users _)

-- two lists in pieces of one length each have the same pieces
same-pieces : {X : Type 0} (piece : X → ℕ → List ℕ) (other : X → List ℕ) → ((x : X) (amount : ℕ) → length (other x) ≡ length (piece x amount))
    → (xs : List X) (amounts : List ℕ) → length amounts ≡ length xs → flat_map other xs ≡ flat_map (λ given. piece given.0 given.1) (zip xs amounts)
    → (at : ℕ) (d : X) → at < length xs → other (get_or xs at d) ≡ piece (get_or xs at d) (get_or amounts at 0)
same-pieces piece other each [] amounts count same at d lt = absurd (omega (arith, lt))
same-pieces piece other each (x ∷ xs) [] count same at d lt = absurd (omega (arith, count))
same-pieces piece other each (x ∷ xs) (amount ∷ amounts) count same zero d lt =
    sym (take_at (other x) (flat_map other xs) (length (other x)) refl) ∙ ap (take (length (other x))) same
    ∙ take_at (piece x amount) (flat_map (λ given. piece given.0 given.1) (zip xs amounts)) (length (other x)) (sym (each x amount))
same-pieces piece other each (x ∷ xs) (amount ∷ amounts) count same (suc at) d lt =
    same-pieces piece other each xs amounts (omega (arith, count))
    (sym (drop_at (other x) (flat_map other xs) (length (other x)) refl) ∙ ap (drop (length (other x))) same
    ∙ drop_at (piece x amount) (flat_map (λ given. piece given.0 given.1) (zip xs amounts)) (length (other x)) (sym (each x amount)))
    at d (omega (arith, lt))

map-flat_map : {X : Type 0} (f : JobTask → ℕ) (tasks : X → List JobTask) (xs : List X) → flat_map (λ x. map f (tasks x)) xs ≡ map f (flat_map tasks xs)
map-flat_map f tasks [] = refl
map-flat_map f tasks (x ∷ xs) = ap (λ list. map f (tasks x) ++ list) (map-flat_map f tasks xs) ∙ sym (map-append f (tasks x) (flat_map tasks xs))

-- what numbered tasks find at their numbers is the list itself
at-numbers : (given : List JobTask) (limits : List ℕ) → map (λ one. one.task.number) given ≡ numbers (length given) → length limits ≡ length given
    → map (λ (one : JobTask). slice_index limits one.task.number) given ≡ limits
at-numbers given limits numbered count =
    same_lists (map (λ (one : JobTask). slice_index limits one.task.number) given) limits (length-map given _ ∙ sym count) (λ place d lt. go place d (omega (arith, length-map given (λ (one : JobTask). slice_index limits one.task.number))))
  where
    go : (place d : ℕ) → place < length given → get_or (map (λ (one : JobTask). slice_index limits one.task.number) given) place d ≡ get_or limits place d
    go place d lt =
        let none : JobTask = record { function = []; task = record { number = 0; weight = 0 } } in
        let number : (get_or given place none).task.number ≡ place =
        sym (get_or-map (λ one. one.task.number) given place none 0 lt) ∙ ap (λ list. get_or list place 0) numbered
        ∙ get_or-range_with_len 0 (length given) place 0 lt ∙ zero-add place in
        get_or-map (λ (one : JobTask). slice_index limits one.task.number) given place none d lt
        ∙ ap (λ n. slice_index limits n) number ∙ get_or_default limits place 0 d (omega (arith, count))

-- the limits of the tasks of each cluster
pub limits-at : (top : ℕ) (demand : ℕ → ℕ) (clusters : List Cluster) (amounts : List ℕ) → AreNumbered clusters → length amounts ≡ length clusters
    → (at : ℕ) (d : Cluster) → at < length clusters
    → map (λ (given : JobTask). slice_index (flat_map (λ given. cluster_limits top demand given.0 given.1) (zip clusters amounts)) given.task.number) (tasks_of_cluster (get_or clusters at d))
    ≡ cluster_limits top demand (get_or clusters at d) (get_or amounts at 0)
limits-at top demand clusters amounts numbered count at d lt =
    let limits : List ℕ = flat_map (λ given. cluster_limits top demand given.0 given.1) (zip clusters amounts) in
    let read : JobTask → ℕ = λ given. slice_index limits given.task.number in
    same-pieces (cluster_limits top demand) (λ cluster. map read (tasks_of_cluster cluster))
    (λ cluster amount. length-map (tasks_of_cluster cluster) read ∙ sym (length-cluster_limits top demand cluster amount)) clusters amounts count
    (map-flat_map read tasks_of_cluster clusters ∙ at-numbers (tasks_of clusters) limits numbered
    (length-pieces (cluster_limits top demand) tasks_of_cluster (length-cluster_limits top demand) clusters amounts count))
    at d lt
