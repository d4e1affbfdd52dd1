-- What a plan and reports give to fill, and what depends on the order of the reports.
use Rattle.std.proofs.Common.{◌≡◌, ℕ, zero, suc, ◌<◌, ◌≤◌, Bool, true, false, List, [], ◌∷◌, ◌++◌, length, reverse, filter, find, Some, None, option_map, unwrap_or, refl, sym, ◌∙◌, ap, ap₂, arith, le_refl, subst, ◌==◌, slice_index, slice_index_or, map, sum, eqb-true, eq-eqb, ne_eqb, cond}
use mathlib.Core.Path.{fun_ext}
use mathlib.Core.List.{reverse-cons}
use Rattle.std.proofs.Common.{append-nil, append_assoc}
use Rattle.std.proofs.lemmas.List.Elements.{filter-append}
use Rattle.std.specs.List.{AllByRecursion}
use Rattle.std.proofs.lemmas.List.FromFn.{get_or-map-range_with_len}
use Rattle.bwe_specs.specs.Bounded.{sum_below}
use Rattle.bwe_specs.specs.Paths.{link_load}
use Rattle.bwe_specs.proofs.Loads.{fits-each}
use Rattle.bwe_specs.proofs.Steps.{filling-sound}
use Rattle.bwe_specs.specs.Filling.{filling, group_amount}
use Rattle.bwe_specs.specs.Values.{IsShareFunction, NeverFalls}
use Rattle.bwe_specs.specs.Tree.{Cluster, cluster_limits}
use Rattle.bwe_specs.specs.TreeFunctions.{IsCluster, AreClusters}
use Rattle.bwe_specs.specs.declared.report.Report.{Report}
use Rattle.bwe_specs.specs.declared.report.Target.{Target}
use Rattle.bwe_specs.specs.declared.report.Target.TheVariants.{Task, Link}
use Rattle.bwe_specs.specs.Reports.{numbers, is_task, is_link, last_amount, demand_after, capacity_after, capacities_after, reports_of, AreOwned}
use Rattle.bwe_specs.specs.Allocation.{Plan, wan_after, table_under, allocation}
use Rattle.bwe_specs.proofs.Bounds.{sum_below-one, sum_below-same, sum_below-zero}
use Rattle.bwe_specs.proofs.ShareFunctions.{cluster_value-is_share_function}
use Rattle.bwe_specs.proofs.Totals.{group_amount-le}
use Rattle.bwe_specs.proofs.Certificates.{filling-right, filling-amounts, last_share-le}
use Rattle.bwe_specs.proofs.HandedOut.{sum-cluster_limits}
use Rattle.bwe_specs.proofs.Plans.{length-capacities_after, capacities_after-at}

-- the cluster of a group, or an empty one
cluster_at : List Cluster → ℕ → Cluster
cluster_at clusters group = slice_index_or clusters group (record { configured = None; users = [] })

cluster_at-is_cluster : (top : ℕ) (clusters : List Cluster) → AreClusters top clusters → (group : ℕ) → IsCluster top (cluster_at clusters group)
unfolding cluster_at
cluster_at-is_cluster top [] are group = (tt, tt)
cluster_at-is_cluster top (cluster ∷ clusters) are zero = are.0
cluster_at-is_cluster top (cluster ∷ clusters) are (suc group) = cluster_at-is_cluster top clusters are.1 group

group_value-is_share_function : (plan : Plan) (reports : List Report) → AreClusters plan.top plan.clusters → (group : ℕ) → IsShareFunction plan.top ((wan_after plan reports).value group)
unfolding cluster_at
group_value-is_share_function plan reports are group = cluster_value-is_share_function plan.top (demand_after reports) (cluster_at plan.clusters group) (cluster_at-is_cluster plan.top plan.clusters are group)

-- the values of a plan never fall
pub plan-never_falls : (plan : Plan) (reports : List Report) → AreClusters plan.top plan.clusters → NeverFalls (wan_after plan reports)
plan-never_falls plan reports are = record { next = λ group s lt. (group_value-is_share_function plan reports are group).next s lt }

pub plan-starts : (plan : Plan) (reports : List Report) → AreClusters plan.top plan.clusters → (group : ℕ) → (wan_after plan reports).value group 0 ≡ 0
plan-starts plan reports are group = (group_value-is_share_function plan reports are group).starts

-- the limits of each group's tasks add up to its amount
pub plan-limits : (plan : Plan) (reports : List Report) → AreClusters plan.top plan.clusters → (group : ℕ)
    → sum (cluster_limits plan.top (demand_after reports) (slice_index_or plan.clusters group (record { configured = None; users = [] })) (group_amount (wan_after plan reports) (filling (wan_after plan reports)).amounts group))
    ≡ group_amount (wan_after plan reports) (filling (wan_after plan reports)).amounts group
unfolding cluster_at
plan-limits plan reports are group =
    let wan = wan_after plan reports in
    let never = plan-never_falls plan reports are in
    let right = filling-right wan never in
    sum-cluster_limits plan.top (demand_after reports) (cluster_at plan.clusters group) (cluster_at-is_cluster plan.top plan.clusters are group)
    (group_amount wan (filling wan).amounts group)
    (subst (λ x. group_amount wan x group ≤ wan.value group wan.top) (sym (filling-amounts wan never))
    (group_amount-le wan never group (filling wan).closings wan.top right.0 (last_share-le wan (filling wan).closings right.0) (le_refl wan.top)))

-- the loads of the allocation are those of the filling, and none exceeds its capacity
pub allocation-feasible : (plan : Plan) (reports : List Report) → AreClusters plan.top plan.clusters
    → (link : ℕ) → link < length plan.capacities → slice_index (allocation plan reports).loads link ≤ capacity_after plan.capacities reports link
unfolding allocation
allocation-feasible plan reports are link lt =
    let wan = wan_after plan reports in
    let never = plan-never_falls plan reports are in
    let within : link < length wan.capacities = subst (λ n. link < n) (sym (length-capacities_after plan.capacities reports)) lt in
    let load : slice_index (allocation plan reports).loads link ≡ link_load wan.groups (filling wan).amounts link =
    get_or-map-range_with_len (link_load wan.groups (filling wan).amounts) 0 (length wan.capacities) link link 0 within (omega arith) in
    let fits : link_load wan.groups (filling wan).amounts link ≤ slice_index wan.capacities link =
    fits-each wan.groups wan.capacities (filling wan).amounts (filling-sound wan never).fits link within in
    let capacity : slice_index wan.capacities link ≡ capacity_after plan.capacities reports link = capacities_after-at plan.capacities reports link lt in
    omega (arith, load, fits, capacity)

filter-reverse : (p : Report → Bool) (xs : List Report) → filter p (reverse xs) ≡ reverse (filter p xs)
filter-reverse p [] = refl
filter-reverse p (x ∷ xs) =
    ap (filter p) (reverse-cons x xs) ∙ filter-append p (reverse xs) (x ∷ []) ∙ ap (λ ys. ys ++ filter p (x ∷ [])) (filter-reverse p xs) ∙ go (p x) where
      go : (b : Bool) → reverse (filter p xs) ++ cond b (x ∷ []) [] ≡ reverse (cond b (x ∷ filter p xs) (filter p xs))
      go true = sym (reverse-cons x (filter p xs))
      go false = append-nil (reverse (filter p xs))

-- a search finds the same among those that pass, where all that it looks for pass
find-filter : (p q : Report → Bool) (xs : List Report) → AllByRecursion (λ x. p x ≡ true → q x ≡ true) xs → find p (filter q xs) ≡ find p xs
find-filter p q [] all = refl
find-filter p q (x ∷ xs) all = go (p x) refl (q x) refl (find-filter p q xs all.1) where
  go : (a : Bool) → p x ≡ a → (b : Bool) → q x ≡ b → find p (filter q xs) ≡ find p xs → find p (cond b (x ∷ filter q xs) (filter q xs)) ≡ cond a (Some x) (find p xs)
  go true e true f rest = rw e
  go true e false f rest = let yes : q x ≡ true = all.0 e in absurd (cc)
  go false e true f rest = rw e rest
  go false e false f rest = rest

all-reverse : (P : Report → Type 0) (xs ys : List Report) → AllByRecursion P xs → AllByRecursion P ys → AllByRecursion P (reverse xs ++ ys)
all-reverse P [] ys all rest = rest
all-reverse P (x ∷ xs) ys all rest =
    subst (AllByRecursion P) (sym (ap (λ l. l ++ ys) (reverse-cons x xs) ∙ append_assoc (reverse xs) (x ∷ []) ys)) (all-reverse P xs (x ∷ ys) all.1 (all.0, rest))

owned-pass : (owner : Target → ℕ) (reporters : ℕ) (test : Target → Bool) (number : ℕ) → ((target : Target) → test target ≡ true → owner target ≡ number)
    → (reports : List Report) → AreOwned owner reporters reports
    → AllByRecursion (λ r. test r.target ≡ true → (r.reporter == number) ≡ true) reports
owned-pass owner reporters test number own [] owned = tt
owned-pass owner reporters test number own (r ∷ reports) owned =
    (λ e. eq-eqb r.reporter number (owned.0 ∙ own r.target e), owned-pass owner reporters test number own reports owned.2)

-- the last report of one owner's targets is the last among that owner's reports
last_amount-owned : (owner : Target → ℕ) (reporters : ℕ) (test : Target → Bool) (number : ℕ) → ((target : Target) → test target ≡ true → owner target ≡ number)
    → (reports : List Report) → AreOwned owner reporters reports → last_amount test (reports_of number reports) ≡ last_amount test reports
unfolding last_amount
last_amount-owned owner reporters test number own reports owned =
    let Passes : Report → Type 0 = λ r. test r.target ≡ true → (r.reporter == number) ≡ true in
    let pass : AllByRecursion Passes (reverse reports) =
    subst (AllByRecursion Passes) (append-nil (reverse reports)) (all-reverse Passes reports [] (owned-pass owner reporters test number own reports owned) tt) in
    ap (option_map (λ report. report.amount))
    (ap (find (λ report. test report.target)) (sym (filter-reverse (λ r. r.reporter == number) reports))
    ∙ find-filter (λ report. test report.target) (λ r. r.reporter == number) (reverse reports) pass)

task-owner : (owner : Target → ℕ) (task : ℕ) (target : Target) → is_task task target ≡ true → owner target ≡ owner (Task task)
unfolding is_task
task-owner owner task (Task number) e = ap (λ n. owner (Task n)) (eqb-true number task e)
task-owner owner task (Link number) e = absurd (cc)

link-owner : (owner : Target → ℕ) (link : ℕ) (target : Target) → is_link link target ≡ true → owner target ≡ owner (Link link)
unfolding is_link
link-owner owner link (Task number) e = absurd (cc)
link-owner owner link (Link number) e = ap (λ n. owner (Link n)) (eqb-true number link e)

-- a task's demand depends on the reports of its owner alone
pub demand-owned : (owner : Target → ℕ) (reporters : ℕ) (task : ℕ) (reports : List Report) → AreOwned owner reporters reports
    → demand_after (reports_of (owner (Task task)) reports) task ≡ demand_after reports task
unfolding demand_after
demand-owned owner reporters task reports owned =
    ap (λ last. unwrap_or last 0) (last_amount-owned owner reporters (is_task task) (owner (Task task)) (task-owner owner task) reports owned)

-- and a link's capacity on those of its owner
pub capacity-owned : (owner : Target → ℕ) (reporters : ℕ) (capacities : List ℕ) (link : ℕ) (reports : List Report) → AreOwned owner reporters reports
    → capacity_after capacities (reports_of (owner (Link link)) reports) link ≡ capacity_after capacities reports link
unfolding capacity_after
capacity-owned owner reporters capacities link reports owned =
    ap (λ last. unwrap_or last (slice_index capacities link)) (last_amount-owned owner reporters (is_link link) (owner (Link link)) (link-owner owner link) reports owned)

-- all reports are those of the reporters together
length-reports : (owner : Target → ℕ) (reporters : ℕ) (reports : List Report) → AreOwned owner reporters reports → length reports ≡ sum_below reporters (λ i. length (reports_of i reports))
length-reports owner reporters [] owned = sym (sum_below-zero reporters _ (λ i lt. refl))
length-reports owner reporters (r ∷ reports) owned =
    let before : ℕ → ℕ = λ i. length (reports_of i reports) in
    let after : ℕ → ℕ = λ i. length (reports_of i (r ∷ reports)) in
    let others : (j : ℕ) → j < reporters → (j ≡ r.reporter → ⊥) → before j ≡ after j =
    λ j lt other. rw (ne_eqb r.reporter j (λ e. other (sym e))) in
    let here : after r.reporter ≡ suc (before r.reporter) = rw (eq-eqb r.reporter r.reporter refl) in
    omega (arith, length-reports owner reporters reports owned.2, sum_below-one reporters r.reporter before after owned.1 others, here)

-- two lists with the same reports of each number, in the same order, have the same table
pub allocation-interleaved : (plan : Plan) (owner : Target → ℕ) (reporters : ℕ) (one two : List Report) → AreOwned owner reporters one → AreOwned owner reporters two
    → ((reporter : ℕ) → reports_of reporter one ≡ reports_of reporter two) → allocation plan one ≡ allocation plan two
unfolding allocation capacities_after
allocation-interleaved plan owner reporters one two owned_one owned_two same =
    let demands : demand_after one ≡ demand_after two =
    fun_ext (λ task. sym (demand-owned owner reporters task one owned_one) ∙ ap (λ reports. demand_after reports task) (same (owner (Task task))) ∙ demand-owned owner reporters task two owned_two) in
    let capacities : capacity_after plan.capacities one ≡ capacity_after plan.capacities two =
    fun_ext (λ link. sym (capacity-owned owner reporters plan.capacities link one owned_one) ∙ ap (λ reports. capacity_after plan.capacities reports link) (same (owner (Link link))) ∙ capacity-owned owner reporters plan.capacities link two owned_two) in
    let count : length one ≡ length two =
    length-reports owner reporters one owned_one ∙ sum_below-same reporters _ _ (λ i lt. ap length (same i)) ∙ sym (length-reports owner reporters two owned_two) in
    let tables : (n : ℕ) (demand : ℕ → ℕ) (one_capacity two_capacity : ℕ → ℕ) → one_capacity ≡ two_capacity
    → table_under plan n demand (map one_capacity (numbers (length plan.capacities))) ≡ table_under plan n demand (map two_capacity (numbers (length plan.capacities))) =
    λ n demand one_capacity two_capacity e. ap (λ capacity. table_under plan n demand (map capacity (numbers (length plan.capacities)))) e in
    ap₂ (λ (n : ℕ) (demand : ℕ → ℕ). table_under plan n demand (map (capacity_after plan.capacities one) (numbers (length plan.capacities)))) count demands
    ∙ tables (length two) (demand_after two) (capacity_after plan.capacities one) (capacity_after plan.capacities two) capacities
