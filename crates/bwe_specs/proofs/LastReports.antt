-- What one report more says of demands and capacities.
use Rattle.std.proofs.Common.{◌≡◌, ℕ, true, false, List, [], ◌∷◌, ◌++◌, slice_index, refl, ◌∙◌}
use Rattle.std.proofs.lemmas.Bool.{cond-true, cond-false, eq-eqb, ne_eqb}
use Rattle.bwe_specs.specs.declared.report.Target.TheVariants.{Task, Link}
use Rattle.bwe_specs.specs.declared.report.Report.{Report}
use Rattle.bwe_specs.specs.Reports.{is_task, is_link, last_amount, demand_after, capacity_after}
use Rattle.bwe_specs.proofs.Plans.{demand-more, capacity-more}

-- the target is the task, or another one
pub is_task-same : (task : ℕ) → is_task task (Task task) ≡ true
unfolding is_task
is_task-same task = eq-eqb task task refl

pub is_task-other : (task number : ℕ) → (number ≡ task → ⊥) → is_task task (Task number) ≡ false
unfolding is_task
is_task-other task number differs = ne_eqb number task differs

pub is_task-link : (task number : ℕ) → is_task task (Link number) ≡ false
unfolding is_task
is_task-link task number = refl

-- the target is the link, or another one
pub is_link-same : (link : ℕ) → is_link link (Link link) ≡ true
unfolding is_link
is_link-same link = eq-eqb link link refl

pub is_link-other : (link number : ℕ) → (number ≡ link → ⊥) → is_link link (Link number) ≡ false
unfolding is_link
is_link-other link number differs = ne_eqb number link differs

pub is_link-task : (link number : ℕ) → is_link link (Task number) ≡ false
unfolding is_link
is_link-task link number = refl

-- before any report
pub demand_after-none : (task : ℕ) → demand_after [] task ≡ 0
unfolding demand_after last_amount
demand_after-none task = refl

pub capacity_after-none : (capacities : List ℕ) (link : ℕ) → capacity_after capacities [] link ≡ slice_index capacities link
unfolding capacity_after last_amount
capacity_after-none capacities link = refl

-- a report of the task or link sets its amount, and another one leaves it
pub demand_after-told : (reports : List Report) (report : Report) (task : ℕ) → is_task task report.target ≡ true → demand_after (reports ++ report ∷ []) task ≡ report.amount
demand_after-told reports report task is = demand-more reports report task ∙ cond-true (is_task task report.target) report.amount (demand_after reports task) is

pub demand_after-other : (reports : List Report) (report : Report) (task : ℕ) → is_task task report.target ≡ false → demand_after (reports ++ report ∷ []) task ≡ demand_after reports task
demand_after-other reports report task not = demand-more reports report task ∙ cond-false (is_task task report.target) report.amount (demand_after reports task) not

pub capacity_after-told : (capacities : List ℕ) (reports : List Report) (report : Report) (link : ℕ) → is_link link report.target ≡ true
    → capacity_after capacities (reports ++ report ∷ []) link ≡ report.amount
capacity_after-told capacities reports report link is = capacity-more capacities reports report link ∙ cond-true (is_link link report.target) report.amount (capacity_after capacities reports link) is

pub capacity_after-other : (capacities : List ℕ) (reports : List Report) (report : Report) (link : ℕ) → is_link link report.target ≡ false
    → capacity_after capacities (reports ++ report ∷ []) link ≡ capacity_after capacities reports link
capacity_after-other capacities reports report link not = capacity-more capacities reports report link ∙ cond-false (is_link link report.target) report.amount (capacity_after capacities reports link) not
