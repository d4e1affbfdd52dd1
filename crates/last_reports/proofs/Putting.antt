-- One report more, in the list of its task or link.
use Rattle.std.proofs.Common.{◌≡◌, ℕ, ◌<◌, List, [], ◌∷◌, ◌++◌, Option, Some, None, map, filter_map, length, get_or, set, replicate, refl, sym, ◌∙◌, ap, ap₂, subst, inl, inr, arith, take, ◌+◌}
use mathlib.Core.Path.{fun_ext}
use Rattle.std.proofs.lemmas.Bool.{cases_eq}
use Rattle.std.proofs.lemmas.List.{length-set, length-replicate, get_or-replicate, take_more, get_or-set_same, get_or-set_other}
use Rattle.std.proofs.lemmas.List.FromFn.{fill_by_all, length-map-range_with_len, get_or-map-range_with_len}
use Rattle.std.proofs.lemmas.List.Elements.{filter_map-append}
use Rattle.std.specs.List.{cons_option}
use Rattle.bwe_specs.specs.declared.report.Report.{Report}
use Rattle.bwe_specs.specs.declared.report.Target.{Target}
use Rattle.bwe_specs.specs.declared.report.Target.TheVariants.{Task, Link}
use Rattle.bwe_specs.specs.Reports.{numbers, is_task, is_link}
use Rattle.bwe_specs.specs.Fit.{IsInRange}
use Rattle.bwe_specs.proofs.LastReports.{is_task-same, is_task-other, is_task-link, is_link-same, is_link-other, is_link-task}
use Rattle.last_reports.specs.Compaction.{last_report}
use Rattle.last_reports.specs.Snapshot.{Told, told_after, snapshot}
use Rattle.last_reports.proofs.Last.{last_report-told, last_report-other}

-- a write at one place, where what is written differs at no other
write_at : (f g : ℕ → Option Report) (count place : ℕ) (report : Option Report) → g place ≡ report
    → ((other : ℕ) → (other ≡ place → ⊥) → g other ≡ f other) → set (map f (numbers count)) place report ≡ map g (numbers count)
write_at f g count place report here there =
    let old : List (Option Report) = map f (numbers count) in
    fill_by_all g (set old place report) count None (length-set old place report ∙ length-map-range_with_len f 0 count)
    (λ k within. elim (cases_eq k place) [
      | inl same ↦
          subst (λ (k : ℕ). get_or (set old place report) k None ≡ g k) (sym same)
          (get_or-set_same old place report None (omega (arith, length-map-range_with_len f 0 count)) ∙ sym here)
      | inr differs ↦
          get_or-set_other old place k report None differs
          ∙ (get_or-map-range_with_len f 0 count k k None within (omega arith) ∙ sym (there k differs))
    ])

-- the two lists
abbrev pub both : List (Option Report) → List (Option Report) → Told
both tasks links = record { tasks = tasks; links = links }

-- a report of a task, and one of a link
pub put-task : (tasks links number : ℕ) (reports : List Report) (report : Report) (old : Told) → report.target ≡ Task number → old ≡ told_after tasks links reports
    → both (set old.tasks number (Some report)) old.links ≡ told_after tasks links (reports ++ report ∷ [])
put-task tasks links number reports report old is was =
    ap (λ told. both (set told.tasks number (Some report)) told.links) was
    ∙ ap₂ both
    (write_at (λ task. last_report (is_task task) reports) (λ task. last_report (is_task task) (reports ++ report ∷ [])) tasks number (Some report)
    (last_report-told (is_task number) reports report (ap (is_task number) is ∙ is_task-same number))
    (λ other differs. last_report-other (is_task other) reports report (ap (is_task other) is ∙ is_task-other other number (λ e. differs (sym e)))))
    (ap (λ last. map last (numbers links))
    (fun_ext (λ link. sym (last_report-other (is_link link) reports report (ap (is_link link) is ∙ is_link-task link number)))))

pub put-link : (tasks links number : ℕ) (reports : List Report) (report : Report) (old : Told) → report.target ≡ Link number → old ≡ told_after tasks links reports
    → both old.tasks (set old.links number (Some report)) ≡ told_after tasks links (reports ++ report ∷ [])
put-link tasks links number reports report old is was =
    ap (λ told. both told.tasks (set told.links number (Some report))) was
    ∙ ap₂ both
    (ap (λ last. map last (numbers tasks))
    (fun_ext (λ task. sym (last_report-other (is_task task) reports report (ap (is_task task) is ∙ is_task-link task number)))))
    (write_at (λ link. last_report (is_link link) reports) (λ link. last_report (is_link link) (reports ++ report ∷ [])) links number (Some report)
    (last_report-told (is_link number) reports report (ap (is_link number) is ∙ is_link-same number))
    (λ other differs. last_report-other (is_link other) reports report (ap (is_link other) is ∙ is_link-other other number (λ e. differs (sym e)))))

-- before any report
pub nothing-told : (tasks links : ℕ) → both (replicate tasks None) (replicate links None) ≡ told_after tasks links []
unfolding last_report
nothing-told tasks links = ap₂ both (nothing tasks) (nothing links) where
  nothing : (count : ℕ) → let none : ℕ → Option Report = λ place. None in replicate count None ≡ map none (numbers count)
  nothing count =
      let none : ℕ → Option Report = λ place. None in
      fill_by_all none (replicate count None) count None (length-replicate count None) (λ k within. get_or-replicate count k None None within)

-- what was told has a place for each task and link
pub in_range-told : (tasks links : ℕ) (reports : List Report) (told : Told) (target : Target) → told ≡ told_after tasks links reports
    → IsInRange tasks links target → IsInRange (length told.tasks) (length told.links) target
in_range-told tasks links reports told (Task number) is within =
    omega (arith, ap (λ told. length told.tasks) is, length-map-range_with_len (λ task. last_report (is_task task) reports) 0 tasks)
in_range-told tasks links reports told (Link number) is within =
    omega (arith, ap (λ told. length told.links) is, length-map-range_with_len (λ link. last_report (is_link link) reports) 0 links)

-- one more of a list
pub given-more : (told : List (Option Report)) (i : ℕ) (last d : Option Report) → i < length told → get_or told i d ≡ last
    → filter_map (λ last. last) (take (i + 1) told) ≡ filter_map (λ last. last) (take i told) ++ cons_option last []
given-more told i last d within is =
    ap (filter_map (λ last. last)) (take_more told i d within)
    ∙ filter_map-append (λ last. last) (take i told) (get_or told i d ∷ [])
    ∙ ap (λ last. filter_map (λ last. last) (take i told) ++ cons_option last []) is

-- those that a list has
given-map : (last : ℕ → Option Report) (places : List ℕ) → filter_map (λ told. told) (map last places) ≡ filter_map last places
given-map last [] = refl
given-map last (place ∷ places) = ap (cons_option (last place)) (given-map last places)

pub given-snapshot : (tasks links : ℕ) (reports : List Report) (told : Told) → told ≡ told_after tasks links reports
    → filter_map (λ last. last) told.tasks ++ filter_map (λ last. last) told.links ≡ snapshot tasks links reports
unfolding snapshot
given-snapshot tasks links reports told is =
    ap (λ told. filter_map (λ last. last) told.tasks ++ filter_map (λ last. last) told.links) is
    ∙ ap₂ (λ xs ys. xs ++ ys) (given-map (λ task. last_report (is_task task) reports) (numbers tasks)) (given-map (λ link. last_report (is_link link) reports) (numbers links))
