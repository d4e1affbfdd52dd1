-- The lists of children, node after node.
use Rattle.std.proofs.Common.{◌≡◌, ℕ, zero, suc, ◌+◌, ◌<◌, List, [], ◌∷◌, ◌++◌, length, get_or, take, map, flat_map, sum_by, Vec, refl, sym, ◌∙◌, ap, ap₂, arith}
use Rattle.std.specs.Global.{Global}
use Rattle.std.proofs.lemmas.List.{length-append, length-map, append-nil, append_assoc, take_more, get_or-map}
use Rattle.std.proofs.lemmas.List.Sums.{sum_by-cons}
use Rattle.policy_tree.specs.States.{JobState, UserState, ClusterState, job_tasks, user_tasks, cluster_tasks}
use Rattle.tree_spec.specs.Numbering.{numbered}
use Rattle.policy_tree.specs.Numbering.{numbered_job, numbered_user, numbered_cluster, numbered_clusters}
use Rattle.policy_tree.specs.Walk.{Node, OfJob, job_nodes, user_nodes, cluster_nodes, walk}
use Rattle.bwe_specs.specs.Lists.{lists_of}
use Rattle.policy_tree.specs.Sizes.{job_size, user_size}
use Rattle.policy_tree.proofs.Sizes.{job-size, user-size}
use Rattle.tree_nodes.specs.Children.{numbers_from, child_numbers, child_lists, nodes_of_job, nodes_of_user, nodes_of_cluster, all_nodes}

numbers-append : {X : Type 0} (size : X → ℕ) (first : ℕ) (xs : List X) (x : X) → numbers_from first (map size (xs ++ x ∷ [])) ≡ numbers_from first (map size xs) ++ (first + sum_by size xs) ∷ []
unfolding numbers_from
numbers-append size first [] x = let e : first ≡ first + 0 = omega arith in ap (λ n. n ∷ []) e
numbers-append size first (y ∷ ys) x =
    let e : first + size y + sum_by size ys ≡ first + sum_by size (y ∷ ys) = omega (arith, sum_by-cons size y ys) in
    ap (λ rest. first ∷ rest) (numbers-append size (first + size y) ys x ∙ ap (λ n. numbers_from (first + size y) (map size ys) ++ n ∷ []) e)

-- one number more
pub numbers-more : {X : Type 0} (size : X → ℕ) (first : ℕ) (xs : List X) (i : ℕ) (x : X) → i < length xs → x ≡ get_or xs i x
    → numbers_from first (map size (take (i + 1) xs)) ≡ numbers_from first (map size (take i xs)) ++ (first + sum_by size (take i xs)) ∷ []
numbers-more size first xs i x lt read = ap (λ items. numbers_from first (map size items)) (take_more xs i x lt) ∙ numbers-append size first (take i xs) (get_or xs i x)

nodes-append : {X : Type 0} (tasks : X → ℕ) (nodes : X → ℕ → List Node) (first : ℕ) (xs : List X) (x : X)
    → all_nodes tasks nodes first (xs ++ x ∷ []) ≡ all_nodes tasks nodes first xs ++ nodes x (first + sum_by tasks xs)
unfolding all_nodes
nodes-append tasks nodes first [] x =
    let e : first ≡ first + 0 = omega arith in append-nil (nodes x first) ∙ ap (nodes x) e
nodes-append tasks nodes first (y ∷ ys) x =
    let e : first + tasks y + sum_by tasks ys ≡ first + sum_by tasks (y ∷ ys) = omega (arith, sum_by-cons tasks y ys) in
    ap (λ rest. nodes y first ++ rest) (nodes-append tasks nodes (first + tasks y) ys x ∙ ap (λ n. all_nodes tasks nodes (first + tasks y) ys ++ nodes x n) e)
    ∙ sym (append_assoc (nodes y first) (all_nodes tasks nodes (first + tasks y) ys) (nodes x (first + sum_by tasks (y ∷ ys))))

lists-append : (first : ℕ) (xs ys : List Node) → child_lists first (xs ++ ys) ≡ child_lists first xs ++ child_lists (first + length xs) ys
unfolding child_lists
lists-append first [] ys = let e : first ≡ first + 0 = omega arith in ap (λ n. child_lists n ys) e
lists-append first (x ∷ xs) ys =
    let e : first + 1 + length xs ≡ first + suc (length xs) = omega arith in
    ap (λ rest. child_numbers first x ∷ rest) (lists-append (first + 1) xs ys ∙ ap (λ n. child_lists (first + 1) xs ++ child_lists n ys) e)

pub length-lists : (first : ℕ) (nodes : List Node) → length (child_lists first nodes) ≡ length nodes
unfolding child_lists
length-lists first [] = refl
length-lists first (node ∷ nodes) = ap suc (length-lists (first + 1) nodes)

pub length-lists_of : (children : Vec (Vec ℕ Global) Global) → length (lists_of children.items) ≡ length children.items
length-lists_of children = length-map children.items (λ list. list.items)

-- the lists of one item more
pub lists-more : {X : Type 0} (tasks : X → ℕ) (nodes : X → ℕ → List Node) (first : ℕ) (xs : List X) (i : ℕ) (x : X) (kept now new : List (List ℕ)) (from next count : ℕ)
    → i < length xs → x ≡ get_or xs i x → from ≡ length kept → count ≡ length now → next ≡ first + sum_by tasks (take i xs)
    → now ≡ kept ++ child_lists from (all_nodes tasks nodes first (take i xs))
    → new ≡ now ++ child_lists count (nodes x next)
    → new ≡ kept ++ child_lists from (all_nodes tasks nodes first (take (i + 1) xs))
lists-more tasks nodes first xs i x kept now new from next count lt read at counted follows before after =
    let done = all_nodes tasks nodes first (take i xs) in
    let size = ap (λ (lists : List (List ℕ)). length lists) before in
    let place : count ≡ from + length done = omega (arith, counted, size, length-append kept (child_lists from done), length-lists from done, at) in
    let all : all_nodes tasks nodes first (take (i + 1) xs) ≡ done ++ nodes x next =
    ap (all_nodes tasks nodes first) (take_more xs i x lt) ∙ nodes-append tasks nodes first (take i xs) (get_or xs i x)
    ∙ ap₂ (λ item n. done ++ nodes item n) (sym read) (sym follows) in
    after
    ∙ ap₂ (λ lists n. lists ++ child_lists n (nodes x next)) before place
    ∙ append_assoc kept (child_lists from done) (child_lists (from + length done) (nodes x next))
    ∙ ap (λ lists. kept ++ lists) (sym (lists-append from done (nodes x next)))
    ∙ ap (λ all. kept ++ child_lists from all) (sym all)

-- no item yet
pub lists-none : {X : Type 0} (tasks : X → ℕ) (nodes : X → ℕ → List Node) (first from : ℕ) (kept : List (List ℕ)) → kept ≡ kept ++ child_lists from (all_nodes tasks nodes first [])
unfolding child_lists all_nodes
lists-none tasks nodes first from kept = sym (append-nil kept)

-- the nodes of numbered items
nodes-numbered : {X Y : Type 0} (tasks : X → ℕ) (item : ℕ → X → Y) (nodes : Y → List Node) (first : ℕ) (xs : List X)
    → flat_map nodes (numbered tasks item first xs) ≡ all_nodes tasks (λ x n. nodes (item n x)) first xs
unfolding numbered all_nodes
nodes-numbered tasks item nodes first [] = refl
nodes-numbered tasks item nodes first (x ∷ xs) = ap (λ rest. nodes (item first x) ++ rest) (nodes-numbered tasks item nodes (first + tasks x) xs)

pub walk-numbered : (clusters : List ClusterState) → walk (numbered_clusters clusters) ≡ all_nodes cluster_tasks nodes_of_cluster 0 clusters
walk-numbered clusters = nodes-numbered cluster_tasks numbered_cluster cluster_nodes 0 clusters

-- and how many they are
sizes-numbered : {X Y : Type 0} (tasks : X → ℕ) (item : ℕ → X → Y) (nodes : Y → List Node) (size : X → ℕ) → ((first : ℕ) (x : X) → length (nodes (item first x)) ≡ size x)
    → (first : ℕ) (xs : List X) → map (λ y. length (nodes y)) (numbered tasks item first xs) ≡ map size xs
unfolding numbered
sizes-numbered tasks item nodes size same first [] = refl
sizes-numbered tasks item nodes size same first (x ∷ xs) = ap₂ (λ head rest. head ∷ rest) (same first x) (sizes-numbered tasks item nodes size same (first + tasks x) xs)

-- a node's own list, and then those of the nodes under it
own-first : (n : ℕ) (old new : List (List ℕ)) (own : List ℕ) (node : Node) (nodes : List Node) → own ≡ child_numbers n node
    → new ≡ (old ++ own ∷ []) ++ child_lists (n + 1) nodes → new ≡ old ++ child_lists n (node ∷ nodes)
unfolding child_lists
own-first n old new own node nodes same is =
    is ∙ append_assoc old (own ∷ []) (child_lists (n + 1) nodes) ∙ ap (λ numbers. old ++ numbers ∷ child_lists (n + 1) nodes) same

pub job-lists : (n first : ℕ) (job : JobState) (old new : List (List ℕ)) (own : List ℕ) → own ≡ child_numbers n (OfJob (numbered_job first job))
    → new ≡ old ++ own ∷ [] → new ≡ old ++ child_lists n (nodes_of_job job first)
unfolding child_lists
job-lists n first job old new own same is = is ∙ ap (λ numbers. old ++ numbers ∷ []) same

pub user-lists : (n first : ℕ) (user : UserState) (old new : List (List ℕ)) (own : List ℕ) → own ≡ numbers_from (n + 1) (map job_size user.jobs)
    → new ≡ (old ++ own ∷ []) ++ child_lists (n + 1) (all_nodes job_tasks nodes_of_job first user.jobs) → new ≡ old ++ child_lists n (nodes_of_user user first)
user-lists n first user old new own same is =
    own-first n old new own _ _ (same ∙ ap (numbers_from (n + 1)) (sym (sizes-numbered job_tasks numbered_job job_nodes job_size job-size first user.jobs)))
    (is ∙ ap (λ nodes. (old ++ own ∷ []) ++ child_lists (n + 1) nodes) (sym (nodes-numbered job_tasks numbered_job job_nodes first user.jobs)))

pub cluster-lists : (n first : ℕ) (cluster : ClusterState) (old new : List (List ℕ)) (own : List ℕ) → own ≡ numbers_from (n + 1) (map user_size cluster.users)
    → new ≡ (old ++ own ∷ []) ++ child_lists (n + 1) (all_nodes user_tasks nodes_of_user first cluster.users) → new ≡ old ++ child_lists n (nodes_of_cluster cluster first)
cluster-lists n first cluster old new own same is =
    own-first n old new own _ _ (same ∙ ap (numbers_from (n + 1)) (sym (sizes-numbered user_tasks numbered_user user_nodes user_size user-size first cluster.users)))
    (is ∙ ap (λ nodes. (old ++ own ∷ []) ++ child_lists (n + 1) nodes) (sym (nodes-numbered user_tasks numbered_user user_nodes first cluster.users)))

-- the list of a node by its number
pub child-at : (first : ℕ) (nodes : List Node) (node : ℕ) (d : Node) → node < length nodes → get_or (child_lists first nodes) node [] ≡ child_numbers (first + node) (get_or nodes node d)
unfolding child_lists
child-at first [] node d lt = absurd (omega arith)
child-at first (x ∷ xs) zero d lt = let e : first ≡ first + 0 = omega arith in ap (λ n. child_numbers n x) e
child-at first (x ∷ xs) (suc node) d lt =
    let e : first + 1 + node ≡ first + suc node = omega arith in
    child-at (first + 1) xs node d (omega arith) ∙ ap (λ n. child_numbers n (get_or xs node d)) e

-- what is kept for a node
pub length-kept : (children : Vec (Vec ℕ Global) Global) (nodes : List Node) → lists_of children.items ≡ child_lists 0 nodes → length children.items ≡ length nodes
length-kept children nodes kept = sym (length-lists_of children) ∙ ap (λ lists. length lists) kept ∙ length-lists 0 nodes

pub kept-children : (children : Vec (Vec ℕ Global) Global) (nodes : List Node) (node : ℕ) (d : Node) (list : Vec ℕ Global) → lists_of children.items ≡ child_lists 0 nodes → node < length nodes
    → list ≡ get_or children.items node list → list.items ≡ child_numbers node (get_or nodes node d)
kept-children children nodes node d list kept lt read =
    let size = length-kept children nodes kept in
    let e : 0 + node ≡ node = omega arith in
    ap (λ numbers. numbers.items) read
    ∙ sym (get_or-map (λ numbers. numbers.items) children.items node list [] (omega arith))
    ∙ ap (λ lists. get_or lists node []) kept
    ∙ child-at 0 nodes node d lt
    ∙ ap (λ n. child_numbers n (get_or nodes node d)) e
