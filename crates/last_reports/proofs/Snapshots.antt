-- A snapshot says the same as the reports that it is made of.
use Rattle.std.proofs.Common.{◌≡◌, ℕ, zero, suc, ◌+◌, ◌<◌, ◌≤◌, ◌⊎◌, Bool, true, false, List, [], ◌∷◌, Option, Some, None, All, find, filter_map, reverse, if◌then◌else◌, cond, refl, sym, ◌∙◌, ap, ap₂, inl, inr, arith, eqb-true, ne_eqb}
use Rattle.std.specs.List.{cons_option, range_with_len}
use Rattle.std.specs.Option.{option_or}
use Rattle.std.proofs.lemmas.Bool.{cases_eq, cases_lt}
use Rattle.bwe_specs.specs.declared.report.Report.{Report}
use Rattle.bwe_specs.specs.declared.report.Target.{Target}
use Rattle.bwe_specs.specs.declared.report.Target.TheVariants.{Task, Link}
use Rattle.bwe_specs.specs.Reports.{numbers, is_task, is_link}
use Rattle.bwe_specs.specs.Fit.{IsInRange}
use Rattle.last_reports.specs.Compaction.{AreAlike, last_report}
use Rattle.last_reports.specs.Snapshot.{SnapshotLaw, snapshot}
use Rattle.last_reports.proofs.Last.{last_report-append, last_report-cons}
use Rattle.last_reports.proofs.Alike.{allocation-alike, or_none}

-- what is found passes the test
found-first : (p : Report → Bool) (first report : Report) (rest : List Report) (b : Bool) → p first ≡ b → (find p rest ≡ Some report → p report ≡ true)
    → cond b (Some first) (find p rest) ≡ Some report → p report ≡ true
found-first p first report rest true is later found = let same : first ≡ report = cc in ap p (sym same) ∙ is
found-first p first report rest false is later found = later found

found-passes : (p : Report → Bool) (reports : List Report) (report : Report) → find p reports ≡ Some report → p report ≡ true
found-passes p [] report found = cc
found-passes p (first ∷ rest) report found = found-first p first report rest (p first) refl (found-passes p rest report) found

last_report-passes : (test : Target → Bool) (reports : List Report) (report : Report) → last_report test reports ≡ Some report → test report.target ≡ true
unfolding last_report
last_report-passes test reports report found = found-passes (λ report. test report.target) (reverse reports) report found

last_report-none : (test : Target → Bool) → last_report test [] ≡ None
unfolding last_report
last_report-none test = refl

-- each place has a test of its own, and no target passes the tests of two places
abbrev IsExclusive : (ℕ → Target → Bool) → Type 0
IsExclusive test = (place other : ℕ) (target : Target) → test place target ≡ true → (other ≡ place → ⊥) → test other target ≡ false

exclusive-task : IsExclusive is_task
unfolding is_task
exclusive-task place other (Task number) is differs = ne_eqb number other (λ e. differs (sym e ∙ eqb-true number place is))
exclusive-task place other (Link number) is differs = refl

exclusive-link : IsExclusive is_link
unfolding is_link
exclusive-link place other (Task number) is differs = refl
exclusive-link place other (Link number) is differs = ne_eqb number other (λ e. differs (sym e ∙ eqb-true number place is))

-- each report that a place gives passes the test of the place
abbrev IsRight : (ℕ → Target → Bool) → (ℕ → Option Report) → Type 0
IsRight test given = (place : ℕ) (report : Report) → given place ≡ Some report → test place report.target ≡ true

abbrev from : (ℕ → Option Report) → ℕ → ℕ → List Report
from given low count = filter_map given (range_with_len low count)

-- one report in front of those that the later places give
front : (test : Target → Bool) (report : Report) (rest : List Report) (b : Bool) → test report.target ≡ b → last_report test (report ∷ rest) ≡ option_or (last_report test rest) (if b then Some report else None)
front test report rest b is = last_report-cons test report rest ∙ ap (λ b. option_or (last_report test rest) (if b then Some report else None)) is

-- a first one that fails
none-first : (test : Target → Bool) (rest : List Report) (first : Option Report) → ((report : Report) → first ≡ Some report → test report.target ≡ false)
    → last_report test rest ≡ None → last_report test (cons_option first rest) ≡ None
none-first test rest None fails none = none
none-first test rest (Some report) fails none = front test report rest false (fails report refl) ∙ ap (λ last. option_or last None) none

-- places that give no report that passes have none
none-passes : (test : Target → Bool) (given : ℕ → Option Report) → ((place : ℕ) (report : Report) → given place ≡ Some report → test report.target ≡ false)
    → (places : List ℕ) → last_report test (filter_map given places) ≡ None
none-passes test given fails [] = last_report-none test
none-passes test given fails (place ∷ places) =
    none-first test (filter_map given places) (given place) (λ report is. fails place report is) (none-passes test given fails places)

-- a place that does not stand among them has none
outside : (test : ℕ → Target → Bool) (given : ℕ → Option Report) → IsExclusive test → IsRight test given → (count low place : ℕ)
    → (place < low) ⊎ (low + count ≤ place) → last_report (test place) (from given low count) ≡ None
outside test given alone right zero low place beyond = last_report-none (test place)
outside test given alone right (suc count) low place beyond =
    none-first (test place) (from given (low + 1) count) (given low)
    (λ report is. alone low place report.target (right low report is) (λ e. elim beyond [ inl below ↦ omega arith | inr above ↦ omega arith ]))
    (outside test given alone right count (low + 1) place (elim beyond [ inl below ↦ inl (omega arith) | inr above ↦ inr (omega arith) ]))

-- a first one that passes, behind which none does
first-passes : (test : Target → Bool) (rest : List Report) (first : Option Report) → ((report : Report) → first ≡ Some report → test report.target ≡ true)
    → last_report test rest ≡ None → last_report test (cons_option first rest) ≡ first
first-passes test rest None passes none = none
first-passes test rest (Some report) passes none = front test report rest true (passes report refl) ∙ ap (λ last. option_or last (Some report)) none

-- a first one that fails leaves the last of the rest
first-fails : (test : Target → Bool) (rest : List Report) (first : Option Report) → ((report : Report) → first ≡ Some report → test report.target ≡ false)
    → last_report test (cons_option first rest) ≡ last_report test rest
first-fails test rest None fails = refl
first-fails test rest (Some report) fails = front test report rest false (fails report refl) ∙ or_none (last_report test rest)

-- a place that stands among them has what it gives
inside : (test : ℕ → Target → Bool) (given : ℕ → Option Report) → IsExclusive test → IsRight test given → (count low place : ℕ)
    → low ≤ place → place < low + count → last_report (test place) (from given low count) ≡ given place
inside test given alone right zero low place above below = absurd (omega arith)
inside test given alone right (suc count) low place above below =
    elim (cases_eq place low) [
      | inl same ↦
          first-passes (test place) (from given (low + 1) count) (given low)
          (λ report is. ap (λ place. test place report.target) same ∙ right low report is)
          (outside test given alone right count (low + 1) place (inl (omega arith)))
          ∙ sym (ap given same)
      | inr differs ↦
          first-fails (test place) (from given (low + 1) count) (given low)
          (λ report is. alone low place report.target (right low report is) differs)
          ∙ inside test given alone right count (low + 1) place (omega arith) (omega arith)
    ]

-- no report of so many tasks or links is of a further one
abbrev IsInRangeOf : ℕ → ℕ → Report → Type 0
IsInRangeOf tasks links report = IsInRange tasks links report.target

fails-task : (tasks links task : ℕ) → tasks ≤ task → (target : Target) → IsInRange tasks links target → is_task task target ≡ false
unfolding is_task
fails-task tasks links task beyond (Task number) within = ne_eqb number task (λ e. omega arith)
fails-task tasks links task beyond (Link number) within = refl

fails-link : (tasks links link : ℕ) → links ≤ link → (target : Target) → IsInRange tasks links target → is_link link target ≡ false
unfolding is_link
fails-link tasks links link beyond (Task number) within = refl
fails-link tasks links link beyond (Link number) within = ne_eqb number link (λ e. omega arith)

none-beyond : (tasks links : ℕ) (test : Target → Bool) → ((target : Target) → IsInRange tasks links target → test target ≡ false)
    → (reports : List Report) → All (IsInRangeOf tasks links) reports → last_report test reports ≡ None
none-beyond tasks links test fails [] all = last_report-none test
none-beyond tasks links test fails (report ∷ reports) all =
    front test report reports false (fails report.target (all 0 report (omega arith)))
    ∙ ap (λ last. option_or last None) (none-beyond tasks links test fails reports (λ k d within. all (suc k) d (omega arith)))

-- the test of a task fails at a report of a link, and the other way round
link-fails : (task link : ℕ) (target : Target) → is_link link target ≡ true → is_task task target ≡ false
unfolding is_task is_link
link-fails task link (Task number) is = cc
link-fails task link (Link number) is = refl

task-fails : (link task : ℕ) (target : Target) → is_task task target ≡ true → is_link link target ≡ false
unfolding is_task is_link
task-fails link task (Task number) is = refl
task-fails link task (Link number) is = cc

-- one of so many places has what it gives, and a further one has none
of_place : (test : ℕ → Target → Bool) (given : ℕ → Option Report) → IsExclusive test → IsRight test given → (count place : ℕ)
    → (count ≤ place → given place ≡ None) → last_report (test place) (filter_map given (numbers count)) ≡ given place
of_place test given alone right count place beyond =
    elim (cases_lt place count) [
      | inl within ↦ inside test given alone right count 0 place (omega arith) (omega arith)
      | inr further ↦ outside test given alone right count 0 place (inr (omega arith)) ∙ sym (beyond further)
    ]

pub alike-snapshot : (tasks links : ℕ) (reports : List Report) → All (IsInRangeOf tasks links) reports → AreAlike reports (snapshot tasks links reports)
unfolding snapshot
alike-snapshot tasks links reports all =
    let of_task : ℕ → Option Report = λ task. last_report (is_task task) reports in
    let of_link : ℕ → Option Report = λ link. last_report (is_link link) reports in
    let task_right : IsRight is_task of_task = λ task report is. last_report-passes (is_task task) reports report is in
    let link_right : IsRight is_link of_link = λ link report is. last_report-passes (is_link link) reports report is in
    record {
      tasks = λ task. sym
          (last_report-append (is_task task) (filter_map of_task (numbers tasks)) (filter_map of_link (numbers links))
          ∙ ap₂ (λ later last. option_or later last)
          (none-passes (is_task task) of_link (λ link report is. link-fails task link report.target (link_right link report is)) (numbers links))
          (of_place is_task of_task exclusive-task task_right tasks task
          (λ further. none-beyond tasks links (is_task task) (fails-task tasks links task further) reports all)));
      links = λ link. sym
          (last_report-append (is_link link) (filter_map of_task (numbers tasks)) (filter_map of_link (numbers links))
          ∙ ap₂ (λ later last. option_or later last)
          (of_place is_link of_link exclusive-link link_right links link
          (λ further. none-beyond tasks links (is_link link) (fails-link tasks links link further) reports all))
          (none-passes (is_link link) of_task (λ task report is. task-fails link task report.target (task_right task report is)) (numbers tasks))
          ∙ or_none (of_link link));
    }

pub snapshot-same : SnapshotLaw
snapshot-same plan tasks links reports all = allocation-alike plan reports (snapshot tasks links reports) (alike-snapshot tasks links reports all)
