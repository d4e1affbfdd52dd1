-- The total of each allocation of a plan has 64 bits.
use Rattle.std.proofs.Common.{◌≡◌, ◌<◌, ◌≤◌, ◌*◌, ◌^◌, ℕ, Bool, true, false, cond, List, [], ◌∷◌, length, map, Option, Some, None, sym, subst, arith, All, flat_map}
use Rattle.std.specs.Prelude.{find, option_map, reverse, unwrap_or}
use Rattle.std.specs.List.{sum_by}
use Rattle.std.proofs.lemmas.List.{get_or-reverse, length-append, length-map, length-reverse}
use Rattle.std.proofs.lemmas.List.Elements.{All-head, All-tail}
use Rattle.std.proofs.lemmas.List.Sums.{sum_by-cons}
use Rattle.bwe_specs.specs.declared.limits.TheConstants.{MAX_AMOUNT, MAX_TOTAL}
use Rattle.bwe_specs.specs.declared.report.Report.{Report}
use Rattle.bwe_specs.specs.Bounded.{sum_below}
use Rattle.bwe_specs.specs.FunctionValue.{Point}
use Rattle.bwe_specs.specs.Distribution.{children_sum}
use Rattle.bwe_specs.specs.Filling.{Wan, filling}
use Rattle.bwe_specs.specs.Reports.{demand_after, is_task, last_amount}
use Rattle.bwe_specs.specs.Tree.{Cluster, Job, User, Weighted, cluster_value, inner_share, job_value, node_value, task_value, user_value}
use Rattle.bwe_specs.specs.TreeFunctions.{AreClusters}
use Rattle.bwe_specs.specs.Allocation.{Plan, allocation, group_line, wan_after}
use Rattle.allocation_laws.proofs.Allocations.{plan-never_falls}
use Rattle.bwe_specs.proofs.Sums.{sum_below-list, sum_by-numbers}
use Rattle.plain_table.proofs.Filled.{amounts-total}
use Rattle.limit_table.specs.Tables.{total_of}
use Rattle.tree_spec.specs.Trees.{cluster_numbers, job_numbers, task_numbers, user_numbers}

-- ---- demands

found_small : (test : Report → Bool) (reports : List Report) → All (λ report. report.amount ≤ MAX_AMOUNT) reports → unwrap_or (option_map (λ report. report.amount) (find test reports)) 0 ≤ MAX_AMOUNT
found_small test [] all = omega arith
found_small test (report ∷ reports) all = go (test report) (found_small test reports (All-tail (λ (report : Report). report.amount ≤ MAX_AMOUNT) report reports all)) where
  go : (b : Bool) → unwrap_or (option_map (λ report. report.amount) (find test reports)) 0 ≤ MAX_AMOUNT → unwrap_or (option_map (λ report. report.amount) (cond b (Some report) (find test reports))) 0 ≤ MAX_AMOUNT
  go true later = All-head (λ (report : Report). report.amount ≤ MAX_AMOUNT) report reports all
  go false later = later

demand_small : (reports : List Report) (task : ℕ) → All (λ report. report.amount ≤ MAX_AMOUNT) reports → demand_after reports task ≤ MAX_AMOUNT
unfolding demand_after last_amount
demand_small reports task all =
    found_small (λ report. is_task task report.target) (reverse reports)
    (λ k d lt. subst (λ (report : Report). report.amount ≤ MAX_AMOUNT) (sym (get_or-reverse reports k d (omega (arith, lt, length-reverse reports)))) (all _ d (omega (arith, lt, length-reverse reports))))

-- ---- values

module _ (top : ℕ) (demand : ℕ → ℕ) (small : (task : ℕ) → demand task ≤ MAX_AMOUNT) where
  -- children have together at most as much as their tasks may ask for
  sum_most : {X : Type 0} (value : X → ℕ → ℕ) (numbers : X → List ℕ) → ((x : X) (share : ℕ) → value x share ≤ length (numbers x) * MAX_AMOUNT)
      → (xs : List X) (share : ℕ) → children_sum (map value xs) share ≤ length (flat_map numbers xs) * MAX_AMOUNT
  sum_most value numbers each [] share = omega arith
  sum_most value numbers each (x ∷ xs) share =
      omega (arith, sum_by-cons (λ (child : ℕ → ℕ). child share) (value x) (map value xs), each x share, sum_most value numbers each xs share, length-append (numbers x) (flat_map numbers xs))

  node_most : (configured : Option (List Point)) (sum : ℕ → ℕ) (most : ℕ) → ((share : ℕ) → sum share ≤ most) → (share : ℕ) → node_value top configured sum share ≤ most
  unfolding node_value
  node_most None sum most each share = each share
  node_most (Some points) sum most each share = each (inner_share top points sum share)

  tasks_most : (points : List Point) (tasks : List Weighted) (share : ℕ) → children_sum (map (λ task. task_value points task.weight (demand task.number)) tasks) share ≤ length tasks * MAX_AMOUNT
  tasks_most points [] share = omega arith
  tasks_most points (task ∷ tasks) share =
      omega (arith, sum_by-cons (λ (child : ℕ → ℕ). child share) (task_value points task.weight (demand task.number)) (map (λ task. task_value points task.weight (demand task.number)) tasks), small task.number, tasks_most points tasks share)

  job_most : (job : Job) (share : ℕ) → job_value top demand job share ≤ length (job_numbers job) * MAX_AMOUNT
  job_most job share =
      node_most job.configured (children_sum (map (λ task. task_value job.task task.weight (demand task.number)) job.tasks)) (length (job_numbers job) * MAX_AMOUNT)
      (λ share. subst (λ (n : ℕ). children_sum (map (λ task. task_value job.task task.weight (demand task.number)) job.tasks) share ≤ n * MAX_AMOUNT) (sym (length-map job.tasks (λ (task : Weighted). task.number))) (tasks_most job.task job.tasks share)) share

  user_most : (user : User) (share : ℕ) → user_value top demand user share ≤ length (user_numbers user) * MAX_AMOUNT
  user_most user share = node_most user.configured (children_sum (map (job_value top demand) user.jobs)) (length (user_numbers user) * MAX_AMOUNT) (sum_most (job_value top demand) job_numbers job_most user.jobs) share

  cluster_most : (cluster : Cluster) (share : ℕ) → cluster_value top demand cluster share ≤ length (cluster_numbers cluster) * MAX_AMOUNT
  cluster_most cluster share = node_most cluster.configured (children_sum (map (user_value top demand) cluster.users)) (length (cluster_numbers cluster) * MAX_AMOUNT) (sum_most (user_value top demand) user_numbers user_most cluster.users) share

values_most : (top : ℕ) (demand : ℕ → ℕ) → ((task : ℕ) → demand task ≤ MAX_AMOUNT) → (clusters : List Cluster) (share : ℕ) → sum_by (λ cluster. cluster_value top demand cluster share) clusters ≤ length (task_numbers clusters) * MAX_AMOUNT
values_most top demand small [] share = omega arith
values_most top demand small (cluster ∷ clusters) share =
    omega (arith, sum_by-cons (λ (cluster : Cluster). cluster_value top demand cluster share) cluster clusters, cluster_most top demand small cluster share, values_most top demand small clusters share, length-append (cluster_numbers cluster) (task_numbers clusters))

-- ---- totals

pub total_small : (plan : Plan) (reports : List Report) → AreClusters plan.top plan.clusters → length plan.clusters ≡ length plan.groups → length (task_numbers plan.clusters) ≤ 1_048_576
    → All (λ report. report.amount ≤ MAX_AMOUNT) reports → total_of (allocation plan reports) < 2 ^ 64
unfolding allocation
total_small plan reports are same few all =
    omega (arith, sum_by-numbers (λ line. line.amount) (group_line wan (filling wan)) (length plan.groups), amounts-total wan (plan-never_falls plan reports are) bound)
  where
    wan : Wan
    wan = wan_after plan reports

    bound : sum_below (length plan.groups) (λ group. wan.value group wan.top) ≤ MAX_TOTAL
    bound =
        subst (λ (n : ℕ). sum_below n (λ group. wan.value group wan.top) ≤ MAX_TOTAL) same
        (omega (
          arith,
          few,
          sum_below-list (λ cluster. cluster_value plan.top (demand_after reports) cluster plan.top) plan.clusters (record { configured = None; users = [] }),
          values_most plan.top (demand_after reports) (λ task. demand_small reports task all) plan.clusters plan.top,
        ))
