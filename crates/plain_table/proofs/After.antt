-- The tree and the network after one report more.
use Rattle.std.proofs.Common.{◌≡◌, ℕ, ◌<◌, List, [], ◌∷◌, ◌++◌, length, get_or, set, sym, ap, ◌∙◌, subst, arith, inl, inr}
use Rattle.std.proofs.lemmas.Bool.{cases_eq}
use Rattle.std.proofs.lemmas.List.{length-set, get_or-set_same, get_or-set_other, length_push}
use Rattle.std.proofs.lemmas.List.FromFn.{fill_by_all}
use Rattle.bwe_specs.specs.declared.report.Report.{Report}
use Rattle.bwe_specs.specs.declared.report.Target.{Target}
use Rattle.bwe_specs.specs.declared.report.Target.TheVariants.{Task, Link}
use Rattle.bwe_specs.specs.Reports.{demand_after, capacity_after, capacities_after}
use Rattle.bwe_specs.proofs.Plans.{capacities_after-at, length-capacities_after}
use Rattle.bwe_specs.specs.Fit.{IsInRange}
use Rattle.bwe_specs.proofs.LastReports.{demand_after-told, demand_after-other, is_task-same, is_task-other, is_task-link, is_link-same, is_link-other, is_link-task, capacity_after-told, capacity_after-other}
use Rattle.plain_table.specs.Reported.{Reported, IsAfter, with_report}

-- the capacities after reports, link by link
capacities_after-is : (given capacities : List ℕ) (reports : List Report) → length capacities ≡ length given
    → ((link : ℕ) → link < length given → get_or capacities link 0 ≡ capacity_after given reports link) → capacities ≡ capacities_after given reports
unfolding capacities_after
capacities_after-is given capacities reports count each = fill_by_all (capacity_after given reports) capacities (length given) 0 count each

-- the demands and capacities after one report more
pub IsAfter-told : (reported : Reported) (reports : List Report) (reporter : ℕ) (target : Target) (amount : ℕ)
    → IsInRange (length reported.tree.demands) (length reported.network.capacities) target → IsAfter reported reports
    → IsAfter (with_report reported (record { reporter = reporter; target = target; amount = amount }))
    (reports ++ record { reporter = reporter; target = target; amount = amount } ∷ [])
IsAfter-told reported reports reporter (Task number) amount inside after =
    let report : Report = record { reporter = reporter; target = Task number; amount = amount } in
    let demands = reported.tree.demands in
    let given = reported.given in
    let count : length reported.network.capacities ≡ length given = ap length after.capacities ∙ length-capacities_after given reports in
    record {
      prefix = omega (arith, length_push reports report, after.prefix);
      demands = λ task.
          elim (cases_eq number task) [
            | inl same ↦
                subst (λ (task : ℕ). get_or (set demands number amount) task 0 ≡ demand_after (reports ++ report ∷ []) task) same
                (get_or-set_same demands number amount 0 inside ∙ sym (demand_after-told reports report number (is_task-same number)))
            | inr differs ↦
                get_or-set_other demands number task amount 0 (λ e. differs (sym e))
                ∙ (after.demands task ∙ sym (demand_after-other reports report task (is_task-other task number differs)))
          ];
      capacities = capacities_after-is given reported.network.capacities (reports ++ report ∷ []) count
          (λ link within.
          ap (λ capacities. get_or capacities link 0) after.capacities
          ∙ (capacities_after-at given reports link within
          ∙ sym (capacity_after-other given reports report link (is_link-task link number))));
    }
IsAfter-told reported reports reporter (Link number) amount inside after =
    let report : Report = record { reporter = reporter; target = Link number; amount = amount } in
    let capacities = reported.network.capacities in
    let given = reported.given in
    let count : length capacities ≡ length given = ap length after.capacities ∙ length-capacities_after given reports in
    record {
      prefix = omega (arith, length_push reports report, after.prefix);
      demands = λ task. after.demands task ∙ sym (demand_after-other reports report task (is_task-link task number));
      capacities = capacities_after-is given (set capacities number amount) (reports ++ report ∷ []) (length-set capacities number amount ∙ count)
          (λ link within.
          elim (cases_eq number link) [
            | inl same ↦
                subst (λ (link : ℕ). get_or (set capacities number amount) link 0 ≡ capacity_after given (reports ++ report ∷ []) link) same
                (get_or-set_same capacities number amount 0 inside ∙ sym (capacity_after-told given reports report number (is_link-same number)))
            | inr differs ↦
                get_or-set_other capacities number link amount 0 (λ e. differs (sym e))
                ∙ (ap (λ capacities. get_or capacities link 0) after.capacities
                ∙ (capacities_after-at given reports link within
                ∙ sym (capacity_after-other given reports report link (is_link-other link number differs))))
          ]);
    }

pub IsAfter-report : (reported : Reported) (reports : List Report) (report : Report)
    → IsInRange (length reported.tree.demands) (length reported.network.capacities) report.target → IsAfter reported reports
    → IsAfter (with_report reported report) (reports ++ report ∷ [])
IsAfter-report reported reports report inside after = IsAfter-told reported reports report.reporter report.target report.amount inside after
