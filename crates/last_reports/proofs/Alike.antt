-- Lists of reports with the same last reports have the same allocation, but for the count of reports.
use Rattle.std.proofs.Common.{◌≡◌, ℕ, Bool, true, false, List, [], ◌∷◌, Option, Some, None, map, length, slice_index, is_some, if◌then◌else◌, refl, sym, ◌∙◌, ap, ap₂, eqb-true}
use Rattle.std.specs.Option.{option_map, option_or, unwrap_or}
use mathlib.Core.Path.{fun_ext}
use Rattle.bwe_specs.specs.declared.report.Report.{Report}
use Rattle.bwe_specs.specs.declared.report.Target.{Target}
use Rattle.bwe_specs.specs.declared.report.Target.TheVariants.{Task, Link}
use Rattle.bwe_specs.specs.Reports.{numbers, is_task, is_link, last_amount, demand_after, capacity_after, capacities_after}
use Rattle.bwe_specs.specs.Allocation.{Plan, allocation, table_under}
use Rattle.last_reports.specs.Compaction.{AreAlike, CompactionLaw, is_target, last_report, last_reports}
use Rattle.last_reports.proofs.Last.{last_report-cons}

demands-alike : (reports others : List Report) → AreAlike reports others → demand_after reports ≡ demand_after others
unfolding demand_after last_amount last_report
demands-alike reports others alike =
    fun_ext (λ task. ap (λ last. unwrap_or (option_map (λ report. report.amount) last) 0) (alike.tasks task))

capacities-alike : (given : List ℕ) (reports others : List Report) → AreAlike reports others → capacities_after given reports ≡ capacities_after given others
unfolding capacities_after capacity_after last_amount last_report
capacities-alike given reports others alike =
    ap (λ capacity. map capacity (numbers (length given)))
    (fun_ext (λ link. ap (λ last. unwrap_or (option_map (λ report. report.amount) last) (slice_index given link)) (alike.links link)))

-- the allocation depends on the last reports alone, but for its count
pub allocation-alike : (plan : Plan) (reports others : List Report) → AreAlike reports others
    → record (allocation plan others) { prefix = length reports } ≡ allocation plan reports
unfolding allocation
allocation-alike plan reports others alike =
    ap₂ (table_under plan (length reports)) (sym (demands-alike reports others alike)) (sym (capacities-alike plan.capacities reports others alike))

-- the test passes exactly one task, or exactly one link
abbrev IsOfOne : (Target → Bool) → Type 0
IsOfOne test = (target : Target) → test target ≡ true → is_target target ≡ test

of_one_task : (task : ℕ) → IsOfOne (is_task task)
unfolding is_task
of_one_task task (Task number) is = ap is_task (eqb-true number task is)
of_one_task task (Link number) is = cc

of_one_link : (link : ℕ) → IsOfOne (is_link link)
unfolding is_link
of_one_link link (Task number) is = cc
of_one_link link (Link number) is = ap is_link (eqb-true number link is)

pub or_none : (last : Option Report) → option_or last None ≡ last
or_none None = refl
or_none (Some report) = refl

-- a report behind which another of its task or link stands is not the last
goes : (test : Target → Bool) → IsOfOne test → (report later : Report) (reports : List Report) (b : Bool) → test report.target ≡ b
    → last_report (is_target report.target) reports ≡ Some later → option_or (last_report test reports) (if b then Some report else None) ≡ last_report test reports
goes test one report later reports true is has =
    let stands : last_report test reports ≡ Some later = ap (λ test. last_report test reports) (sym (one report.target is)) ∙ has in
    ap (λ last. option_or last (Some report)) stands ∙ sym stands
goes test one report later reports false is has = or_none (last_report test reports)

kept : (test : Target → Bool) → IsOfOne test → (report : Report) (reports : List Report) (later : Option Report) → last_report (is_target report.target) reports ≡ later
    → last_report test (last_reports reports) ≡ last_report test reports
    → last_report test (if is_some later then last_reports reports else report ∷ last_reports reports) ≡ last_report test (report ∷ reports)
kept test one report reports (Some later) has same =
    same ∙ sym (last_report-cons test report reports ∙ goes test one report later reports (test report.target) refl has)
kept test one report reports None has same =
    last_report-cons test report (last_reports reports)
    ∙ ap (λ last. option_or last (if test report.target then Some report else None)) same
    ∙ sym (last_report-cons test report reports)

last_report-last_reports : (test : Target → Bool) → IsOfOne test → (reports : List Report) → last_report test (last_reports reports) ≡ last_report test reports
unfolding last_reports
last_report-last_reports test one [] = refl
last_report-last_reports test one (report ∷ reports) =
    kept test one report reports (last_report (is_target report.target) reports) refl (last_report-last_reports test one reports)

-- the last reports of a list say the same as the list
pub alike-last_reports : (reports : List Report) → AreAlike reports (last_reports reports)
alike-last_reports reports = record {
  tasks = λ task. sym (last_report-last_reports (is_task task) (of_one_task task) reports);
  links = λ link. sym (last_report-last_reports (is_link link) (of_one_link link) reports);
}

-- Compaction law
pub compaction : CompactionLaw
compaction plan reports = allocation-alike plan reports (last_reports reports) (alike-last_reports reports)
