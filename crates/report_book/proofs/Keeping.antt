-- Rows that tell each demand and each capacity.
use Rattle.std.proofs.Common.{◌≡◌, ◌≢◌, ℕ, ◌<◌, List, [], ◌∷◌, ◌++◌, length, get_or, set, sym, ◌∙◌, subst, arith, inl, inr}
use Rattle.std.proofs.lemmas.Bool.{cases_eq}
use Rattle.std.proofs.lemmas.List.{length-set, get_or-set_same, get_or-set_other, length_push}
use Rattle.bwe_specs.specs.declared.report.Target.{Target}
use Rattle.bwe_specs.specs.declared.report.Target.TheVariants.{Task, Link}
use Rattle.bwe_specs.specs.declared.report.Report.{Report}
use Rattle.bwe_specs.specs.Reports.{demand_after, capacity_after}
use Rattle.bwe_specs.specs.declared.limits.TheConstants.{MAX_REPORTS}
use Rattle.report_book.specs.declared.told.Told.{Told}
use Rattle.bwe_specs.specs.Fit.{IsInRange}
use Rattle.report_book.specs.Told.{Tells}
use Rattle.report_book.specs.Book.{Book, AreKept, with_report, row_at, task_rows_after, link_rows_after}
use Rattle.report_book.proofs.Amounts.{Tells-none, Tells-told, Tells-kept}
use Rattle.bwe_specs.proofs.LastReports.{demand_after-none, demand_after-told, demand_after-other, is_task-same, is_task-other, is_task-link, is_link-same, is_link-other, is_link-task, capacity_after-none, capacity_after-told, capacity_after-other}

-- nothing was reported
pub AreKept-empty : (tasks : ℕ) (capacities : List ℕ) (task_rows link_rows : List (List Told)) → length task_rows ≡ tasks → length link_rows ≡ length capacities
    → ((number : ℕ) → row_at task_rows number ≡ []) → ((number : ℕ) → row_at link_rows number ≡ [])
    → AreKept (record { tasks = tasks; capacities = capacities; reports = [] }) task_rows link_rows
AreKept-empty tasks capacities task_rows link_rows count count' none none' = record {
  room = omega arith;
  task_rows = count;
  link_rows = count';
  demands = λ task inside. subst (Tells 0 (λ reports. demand_after reports task) []) (sym (none task)) (Tells-none 0 (λ reports. demand_after reports task) (demand_after-none task));
  capacities = λ link inside.
      let first = get_or capacities link 0 in
      subst (Tells first (λ reports. capacity_after capacities reports link) []) (sym (none' link)) (Tells-none first (λ reports. capacity_after capacities reports link) (capacity_after-none capacities link));
}

-- a row with one entry more, and the other rows as they were
told_row : (P : List Told → Type 0) (rows : List (List Told)) (number : ℕ) (entry : Told) → number < length rows → P (row_at rows number ++ entry ∷ []) → P (row_at (set rows number (row_at rows number ++ entry ∷ [])) number)
told_row P rows number entry inside = subst P (sym (get_or-set_same rows number (row_at rows number ++ entry ∷ []) [] inside))

other_row : (P : List Told → Type 0) (rows : List (List Told)) (number other : ℕ) (row : List Told) → other ≢ number → P (row_at rows other) → P (row_at (set rows number row) other)
other_row P rows number other row differs = subst P (sym (get_or-set_other rows number other row [] differs))

-- the row of the target has the entry of one report more
pub AreKept-push : (book : Book) (reporter : ℕ) (target : Target) (amount : ℕ) (task_rows link_rows : List (List Told)) → length book.reports < MAX_REPORTS
    → IsInRange book.tasks (length book.capacities) target → AreKept book task_rows link_rows
    → let entry : Told = record { place = length book.reports; amount = amount } in
    AreKept (with_report book (record { reporter = reporter; target = target; amount = amount })) (task_rows_after target entry task_rows) (link_rows_after target entry link_rows)
AreKept-push book reporter (Task number) amount task_rows link_rows room inside kept =
    let report : Report = record { reporter = reporter; target = Task number; amount = amount } in
    let entry : Told = record { place = length book.reports; amount = amount } in
    let row = row_at task_rows number ++ entry ∷ [] in
    let after = λ (task : ℕ) (reports : List Report). demand_after reports task in
    let P = λ (task : ℕ) (row : List Told). Tells 0 (after task) (book.reports ++ report ∷ []) row in
    record {
      room = omega (arith, length_push book.reports report);
      task_rows = length-set task_rows number row ∙ kept.task_rows;
      link_rows = kept.link_rows;
      demands = λ task within.
          elim (cases_eq number task) [
            | inl same ↦
                subst (λ (task : ℕ). P task (row_at (set task_rows number row) task)) same
                (told_row (P number) task_rows number entry (omega (arith, kept.task_rows))
                (Tells-told 0 (after number) book.reports report (row_at task_rows number) (demand_after-told book.reports report number (is_task-same number)) (kept.demands number inside)))
            | inr differs ↦
                other_row (P task) task_rows number task row (λ e. differs (sym e))
                (Tells-kept 0 (after task) book.reports report (row_at task_rows task) (demand_after-other book.reports report task (is_task-other task number differs)) (kept.demands task within))
          ];
      capacities = λ link within.
          Tells-kept (get_or book.capacities link 0) (λ reports. capacity_after book.capacities reports link) book.reports report (row_at link_rows link)
          (capacity_after-other book.capacities book.reports report link (is_link-task link number)) (kept.capacities link within);
    }
AreKept-push book reporter (Link number) amount task_rows link_rows room inside kept =
    let report : Report = record { reporter = reporter; target = Link number; amount = amount } in
    let entry : Told = record { place = length book.reports; amount = amount } in
    let row = row_at link_rows number ++ entry ∷ [] in
    let first = λ (link : ℕ). get_or book.capacities link 0 in
    let after = λ (link : ℕ) (reports : List Report). capacity_after book.capacities reports link in
    let P = λ (link : ℕ) (row : List Told). Tells (first link) (after link) (book.reports ++ report ∷ []) row in
    record {
      room = omega (arith, length_push book.reports report);
      task_rows = kept.task_rows;
      link_rows = length-set link_rows number row ∙ kept.link_rows;
      demands = λ task within.
          Tells-kept 0 (λ reports. demand_after reports task) book.reports report (row_at task_rows task)
          (demand_after-other book.reports report task (is_task-link task number)) (kept.demands task within);
      capacities = λ link within.
          elim (cases_eq number link) [
            | inl same ↦
                subst (λ (link : ℕ). P link (row_at (set link_rows number row) link)) same
                (told_row (P number) link_rows number entry (omega (arith, kept.link_rows))
                (Tells-told (first number) (after number) book.reports report (row_at link_rows number)
                (capacity_after-told book.capacities book.reports report number (is_link-same number)) (kept.capacities number inside)))
            | inr differs ↦
                other_row (P link) link_rows number link row (λ e. differs (sym e))
                (Tells-kept (first link) (after link) book.reports report (row_at link_rows link)
                (capacity_after-other book.capacities book.reports report link (is_link-other link number differs)) (kept.capacities link within))
          ];
    }
