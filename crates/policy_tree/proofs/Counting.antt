-- Which node of a spec is the first without children.
use Rattle.std.proofs.Common.{◌≡◌, ℕ, suc, ◌+◌, ◌<◌, ◌≤◌, Bool, true, false, List, [], ◌∷◌, ◌++◌, length, get_or, take, drop, map, flat_map, sum_by, Result, Ok, Err, Option, Some, None, refl, sym, ◌∙◌, ap, ap₂, arith, cond, ◌==◌, nat_lt, lt-ltb, ltb-true, ltb-false, if◌then◌else◌}
use Rattle.std.specs.Prelude.{position}
use Rattle.std.specs.List.{position_from}
use Rattle.std.proofs.lemmas.Iterator.Adapters.{position_from-zero}
use Rattle.std.proofs.lemmas.List.{length-append, length-map, map-append, append-nil, take-append-drop, take_more}
use Rattle.std.proofs.lemmas.List.Concat.{flat_map-append}
use Rattle.std.proofs.lemmas.List.FromFn.{length-range_with_len}
use Rattle.tree_spec.specs.Tasks.{without_demand}
use Rattle.tree_spec.specs.declared.fault.TreeFault.{TreeFault}
use Rattle.tree_spec.specs.declared.fault.TreeFault.TheVariants.{TooManyTasks}
use Rattle.tree_spec.specs.declared.spec.JobSpec.{JobSpec}
use Rattle.tree_spec.specs.declared.spec.UserSpec.{UserSpec}
use Rattle.tree_spec.specs.declared.spec.ClusterSpec.{ClusterSpec}
use Rattle.policy_tree.specs.States.{cluster_tasks, user_tasks, job_tasks}
use Rattle.policy_tree.specs.Asked.{idle_job, idle_user, idle_cluster, cluster_weights}
use Rattle.tree_spec.specs.Numbering.{numbered}
use Rattle.policy_tree.specs.Numbering.{numbered_task, numbered_job, numbered_user, numbered_cluster}
use Rattle.policy_tree.specs.Trees.{task_numbers}
use Rattle.policy_tree.specs.Walk.{Node, job_nodes, user_nodes, cluster_nodes, walk, is_childless, fault_by, tree_fault}
use Rattle.policy_tree.specs.Childless.{job_childless, user_childless, cluster_childless, clusters_of, IsCounted}
use Rattle.policy_tree.proofs.Numbers.{length-numbered}
use Rattle.policy_tree.proofs.Idle.{idle_clusters-tasks}
use Rattle.policy_tree.proofs.TreeFacts.{clusters-numbers}

-- the first test that is passed, of two lists one after the other
none-append : (first : ℕ) (left right : List Bool) → position_from (λ test. test) first left ≡ None
    → position_from (λ test. test) first (left ++ right) ≡ position_from (λ test. test) (first + length left) right
none-append first [] right none = let e : first ≡ first + 0 = omega arith in ap (λ n. position_from (λ test. test) n right) e
none-append first (true ∷ left) right none = absurd (cc)
none-append first (false ∷ left) right none =
    let e : first + 1 + length left ≡ first + suc (length left) = omega arith in
    none-append (first + 1) left right none ∙ ap (λ n. position_from (λ test. test) n right) e

some-append : (first : ℕ) (left right : List Bool) (found : ℕ) → position_from (λ test. test) first left ≡ Some found → position_from (λ test. test) first (left ++ right) ≡ Some found
some-append first [] right found some = absurd (cc)
some-append first (true ∷ left) right found some = some
some-append first (false ∷ left) right found some = some-append (first + 1) left right found some

-- what was found first stays so, whatever comes after it
pub counted-stopped : (fault : TreeFault) (node : ℕ) (left right : List Bool) → IsCounted (Err fault) node left → IsCounted (Err fault) node (left ++ right)
counted-stopped fault node left right counted = (counted.0, counted.1, some-append node left right counted.0 counted.2)

-- where nothing was found, the next nodes are looked at
pub counted-more : (result : Result ℕ TreeFault) (node next : ℕ) (left right : List Bool) → IsCounted (Ok next) node left → IsCounted result next right → IsCounted result node (left ++ right)
counted-more (Ok last) node next left right before here = (
  omega (arith, before.0, here.0, length-append left right),
  none-append node left right before.1 ∙ ap (λ n. position_from (λ test. test) n right) (sym before.0) ∙ here.1,
)
counted-more (Err fault) node next left right before here =
    (here.0, here.1, none-append node left right before.1 ∙ ap (λ n. position_from (λ test. test) n right) (sym before.0) ∙ here.2)

-- all lists before a place, with the one there
pub flat_map-more : {X A : Type 0} (f : X → List A) (xs : List X) (place : ℕ) (x : X) → place < length xs → x ≡ get_or xs place x → flat_map f (take (place + 1) xs) ≡ flat_map f (take place xs) ++ f x
flat_map-more f xs place x lt read =
    ap (flat_map f) (take_more xs place x lt) ∙ flat_map-append f (take place xs) (get_or xs place x ∷ []) ∙ ap (λ rest. flat_map f (take place xs) ++ rest) (append-nil (f (get_or xs place x))) ∙ ap (λ y. flat_map f (take place xs) ++ f y) (sym read)

pub flat_map-split : {X A : Type 0} (f : X → List A) (xs : List X) (place : ℕ) (x : X) → place < length xs → x ≡ get_or xs place x
    → flat_map f xs ≡ (flat_map f (take place xs) ++ f x) ++ flat_map f (drop (place + 1) xs)
flat_map-split f xs place x lt read =
    ap (flat_map f) (sym (take-append-drop (place + 1) xs)) ∙ flat_map-append f (take (place + 1) xs) (drop (place + 1) xs)
    ∙ ap (λ left. left ++ flat_map f (drop (place + 1) xs)) (flat_map-more f xs place x lt read)

-- the nodes of the clusters that a spec gives have no child exactly where the spec says so
lists-same : {X S Y : Type 0} (tasks : S → ℕ) (item : ℕ → S → Y) (nodes : Y → List Node) (idle : X → S) (childless : X → List Bool)
    → ((first : ℕ) (x : X) → map is_childless (nodes (item first (idle x))) ≡ childless x)
    → (first : ℕ) (xs : List X) → map is_childless (flat_map nodes (numbered tasks item first (map idle xs))) ≡ flat_map childless xs
unfolding numbered
lists-same tasks item nodes idle childless same first [] = refl
lists-same tasks item nodes idle childless same first (x ∷ xs) =
    map-append is_childless (nodes (item first (idle x))) (flat_map nodes (numbered tasks item (first + tasks (idle x)) (map idle xs)))
    ∙ ap₂ (λ head rest. head ++ rest) (same first x) (lists-same tasks item nodes idle childless same (first + tasks (idle x)) xs)

-- as many children
length-children : {X S Y : Type 0} (tasks : S → ℕ) (item : ℕ → S → Y) (idle : X → S) (first : ℕ) (xs : List X) → length (numbered tasks item first (map idle xs)) ≡ length xs
length-children tasks item idle first xs = length-numbered tasks item first (map idle xs) ∙ length-map xs idle

job-same : (first : ℕ) (spec : JobSpec) → map is_childless (job_nodes (numbered_job first (idle_job spec))) ≡ job_childless spec
job-same first spec = ap (λ n. (n == 0) ∷ []) (length-children (λ task. 1) numbered_task without_demand first spec.weights.items)

user-same : (first : ℕ) (spec : UserSpec) → map is_childless (user_nodes (numbered_user first (idle_user spec))) ≡ user_childless spec
user-same first spec =
    ap₂ (λ n rest. (n == 0) ∷ rest)
    (length-children job_tasks numbered_job idle_job first spec.jobs.items)
    (lists-same job_tasks numbered_job job_nodes idle_job job_childless job-same first spec.jobs.items)

cluster-same : (first : ℕ) (spec : ClusterSpec) → map is_childless (cluster_nodes (numbered_cluster first (idle_cluster spec))) ≡ cluster_childless spec
cluster-same first spec =
    ap₂ (λ n rest. (n == 0) ∷ rest)
    (length-children user_tasks numbered_user idle_user first spec.users.items)
    (lists-same user_tasks numbered_user user_nodes idle_user user_childless user-same first spec.users.items)

pub walk-childless : (specs : List ClusterSpec) → map is_childless (walk (clusters_of specs)) ≡ flat_map cluster_childless specs
walk-childless specs = lists-same cluster_tasks numbered_cluster cluster_nodes idle_cluster cluster_childless cluster-same 0 specs

pub length-walk : (specs : List ClusterSpec) → length (walk (clusters_of specs)) ≡ length (flat_map cluster_childless specs)
length-walk specs = sym (length-map (walk (clusters_of specs)) is_childless) ∙ ap (λ (tests : List Bool). length tests) (walk-childless specs)

position-map : (first : ℕ) (nodes : List Node) → position_from is_childless first nodes ≡ position_from (λ test. test) first (map is_childless nodes)
position-map first [] = refl
position-map first (node ∷ nodes) = ap (λ rest. cond (is_childless node) (Some first) rest) (position-map (first + 1) nodes)

pub position-walk : (specs : List ClusterSpec) → position is_childless (walk (clusters_of specs)) ≡ position_from (λ test. test) 0 (flat_map cluster_childless specs)
position-walk specs = position_from-zero is_childless (walk (clusters_of specs)) ∙ position-map 0 (walk (clusters_of specs)) ∙ ap (position_from (λ test. test) 0) (walk-childless specs)

-- and as many tasks as the spec has weights
pub length-task_numbers : (specs : List ClusterSpec) → length (task_numbers (clusters_of specs)) ≡ sum_by cluster_weights specs
length-task_numbers specs =
    ap (λ (numbers : List ℕ). length numbers) (clusters-numbers (map idle_cluster specs))
    ∙ length-range_with_len 0 (sum_by cluster_tasks (map idle_cluster specs))
    ∙ idle_clusters-tasks specs

-- with no node without children the number of tasks decides
pub many_fault : (count : ℕ) → 1_048_576 < count → fault_by None count ≡ Some (TooManyTasks count)
many_fault count many = rw (lt-ltb 1_048_576 count many) refl

pub few_fault : (count : ℕ) → count ≤ 1_048_576 → fault_by None count ≡ None
few_fault count few = go (nat_lt 1_048_576 count) refl where
  go : (b : Bool) → nat_lt 1_048_576 count ≡ b → (if b then Some (TooManyTasks count) else None) ≡ None
  go true e = absurd (omega (arith, ltb-true 1_048_576 count e))
  go false e = refl

no_fault-few : (found : Option ℕ) (count : ℕ) → fault_by found count ≡ None → count ≤ 1_048_576
no_fault-few (Some node) count none = absurd (cc)
no_fault-few None count none = go (nat_lt 1_048_576 count) refl none where
  go : (b : Bool) → nat_lt 1_048_576 count ≡ b → (if b then Some (TooManyTasks count) else None) ≡ None → count ≤ 1_048_576
  go true e none = absurd (cc)
  go false e none = ltb-false 1_048_576 count e

pub weights-few : (specs : List ClusterSpec) → tree_fault (clusters_of specs) ≡ None → sum_by cluster_weights specs ≤ 1_048_576
weights-few specs none = omega (arith, length-task_numbers specs, no_fault-few (position is_childless (walk (clusters_of specs))) (length (task_numbers (clusters_of specs))) none)

-- there are at least as many nodes as clusters
pub clusters-few : (specs : List ClusterSpec) → length specs ≤ length (flat_map cluster_childless specs)
clusters-few [] = omega arith
clusters-few (spec ∷ specs) = omega (arith, length-append (cluster_childless spec) (flat_map cluster_childless specs), clusters-few specs)
