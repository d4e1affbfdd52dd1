-- A history whose reporters' reports are those of a script has the script's table.
use Rattle.std.proofs.Common.{◌≡◌, ◌==◌, ℕ, ◌<◌, ◌≤◌, true, false, cond, Bool, List, [], ◌∷◌, Vec, Global, length, filter, get_or, slice_index_or, unwrap_or, refl, sym, ap, ◌∙◌, subst, arith, inl, inr, All, le_trans, Result, Ok, Err, IfOk}
use Rattle.std.proofs.lemmas.Bool.{cases_lt, eq-eqb, ne_eqb}
use Rattle.std.proofs.lemmas.List.Elements.{All-filter, All-head, All-tail, All-nil, All-cons, All-same}
use Rattle.bwe_specs.specs.declared.report.Report.{Report}
use Rattle.bwe_specs.specs.declared.report.Target.{Target}
use Rattle.bwe_specs.specs.Reports.{reports_of, AreOwned}
use Rattle.bwe_specs.specs.Allocation.{Plan, allocation}
use Rattle.allocation_laws.proofs.Allocations.{allocation-interleaved}
use Rattle.bwe_specs.specs.declared.limits.TheConstants.{MAX_REPORTERS, MAX_REPORTS}
use Rattle.bwe_specs.specs.Fit.{IsFit}
use Rattle.plan_doc.specs.declared.document.Document.{Document}
use Rattle.plan_doc.specs.Conditions.{IsUsable, link_count, reporter_count, tasks_in}
use Rattle.plan_doc.specs.Owners.{owner_of}
use Rattle.crew_log.specs.Scripts.{AreOfReporters, reports_in}
use Rattle.bwe_specs.specs.Lists.{lists_of}
use Rattle.document_scripts.specs.Scripts.{scripts_of}
use Rattle.document_scripts.proofs.Split.{split-at, split-count, split-scripts, split-within}

-- what follows of an answer that is there
pub if_ok : {A E : Type 0} (answer : Result A E) (P Q : A → Type 0) → ((x : A) → P x → Q x) → IfOk answer P → IfOk answer Q
if_ok (Ok x) P Q follows holds = follows x holds
if_ok (Err error) P Q follows holds = tt

-- what holds of those that pass holds of each that passes
back : (P : Report → Type 0) (test : Report → Bool) (reports : List Report) → All P (filter test reports) → All (λ report. test report ≡ true → P report) reports
back P test [] all = All-nil (λ report. test report ≡ true → P report)
back P test (report ∷ reports) all = go (test report) refl all (back P test reports) where
  go : (b : Bool) → test report ≡ b → All P (cond b (report ∷ filter test reports) (filter test reports)) → (All P (filter test reports) → All (λ report. test report ≡ true → P report) reports)
      → All (λ report. test report ≡ true → P report) (report ∷ reports)
  go true is all rest = All-cons (λ report. test report ≡ true → P report) report reports (λ e. All-head P report (filter test reports) all) (rest (All-tail P report (filter test reports) all))
  go false is all rest = All-cons (λ report. test report ≡ true → P report) report reports (λ e. absurd (cc)) (rest all)

-- nobody has reports whose number is not below the number of reporters
none-beyond : (reporters number : ℕ) → reporters ≤ number → (reports : List Report) → All (λ report. report.reporter < reporters) reports → reports_of number reports ≡ []
none-beyond reporters number beyond [] all = refl
none-beyond reporters number beyond (report ∷ reports) all =
    let here = All-head (λ report. report.reporter < reporters) report reports all in
    rw (ne_eqb report.reporter number (λ e. absurd (omega (arith, e, here, beyond)))) (none-beyond reporters number beyond reports (All-tail (λ report. report.reporter < reporters) report reports all))

-- each report is by the owner of its task or link
owned : (owner : Target → ℕ) (reporters : ℕ) (reports : List Report) → All (λ report. report.reporter ≡ owner report.target) reports → All (λ report. report.reporter < reporters) reports → AreOwned owner reporters reports
owned owner reporters [] own within = tt
owned owner reporters (report ∷ reports) own within = (
  All-head (λ report. report.reporter ≡ owner report.target) report reports own,
  All-head (λ report. report.reporter < reporters) report reports within,
  owned owner reporters reports (All-tail (λ report. report.reporter ≡ owner report.target) report reports own) (All-tail (λ report. report.reporter < reporters) report reports within),
)

module _ (plan : Plan) (owner : Target → ℕ) (reporters : ℕ) (script history : List Report) (scripts : List (Vec Report Global)) (split : lists_of scripts ≡ scripts_of reporters script)
    (each : (number : ℕ) (other : Vec Report Global) → number < length scripts → reports_of number history ≡ (slice_index_or scripts number other).items)
    (own : All (λ report. report.reporter ≡ owner report.target) script)
    (script_within : All (λ report. report.reporter < reporters) script) (history_within : All (λ report. report.reporter < reporters) history) where
  same-below : (number : ℕ) → number < reporters → reports_of number history ≡ reports_of number script
  same-below number lt =
      let within : number < length scripts = omega (arith, split-count reporters script scripts split) in
      go scripts split each within
    where
      go : (scripts : List (Vec Report Global)) → lists_of scripts ≡ scripts_of reporters script
          → ((number : ℕ) (other : Vec Report Global) → number < length scripts → reports_of number history ≡ (slice_index_or scripts number other).items)
          → number < length scripts → reports_of number history ≡ reports_of number script
      go [] split each within = absurd (omega arith)
      go (first ∷ later) split each within = each number first within ∙ split-at reporters script (first ∷ later) split number first within

  same-reports : (number : ℕ) → reports_of number history ≡ reports_of number script
  same-reports number =
      elim (cases_lt number reporters) [
        | inl below ↦ same-below number below
        | inr beyond ↦ none-beyond reporters number beyond history history_within ∙ sym (none-beyond reporters number beyond script script_within)
      ]

  history-own : All (λ report. report.reporter ≡ owner report.target) history
  history-own k d lt =
      let report : Report = get_or history k d in
      let theirs : All (λ report. report.reporter ≡ owner report.target) (reports_of report.reporter history) =
      All-same (λ report. report.reporter ≡ owner report.target) (reports_of report.reporter history) (reports_of report.reporter script) (same-reports report.reporter)
      (All-filter (λ other. other.reporter == report.reporter) (λ report. report.reporter ≡ owner report.target) script own) in
      back (λ report. report.reporter ≡ owner report.target) (λ other. other.reporter == report.reporter) history theirs k d lt (eq-eqb report.reporter report.reporter refl)

  -- the table of the history is that of the script
  pub history-table : allocation plan history ≡ allocation plan script
  history-table =
      allocation-interleaved plan owner reporters history script (owned owner reporters history history-own history_within) (owned owner reporters script own script_within) same-reports

module _ (document : Document) (usable : IsUsable document) where
  abbrev pub plan_in : Plan
  plan_in = record { top = document.tree.top; clusters = document.tree.clusters; groups = document.plan; capacities = document.topology.capacities }

  pub owner_in : Target → ℕ
  owner_in target = unwrap_or (owner_of document.task_owners.items document.link_owners.items target) 0

  pub own-in : All (λ report. report.reporter ≡ owner_in report.target) document.script.items
  unfolding owner_in
  own-in k d lt = sym (ap (λ owner. unwrap_or owner 0) (usable.by_owners k d lt))

  pub within-in : All (λ report. report.reporter < reporter_count document) document.script.items
  within-in k d lt = (usable.reports k d lt).0

  fit-in : All (IsFit (tasks_in document) (link_count document)) document.script.items
  fit-in k d lt = (usable.reports k d lt).1

  module _ (scripts : List (Vec Report Global)) (split : lists_of scripts ≡ scripts_of (reporter_count document) document.script.items) where
    pub few-scripts : length scripts ≤ MAX_REPORTERS
    few-scripts = subst (λ count. count ≤ MAX_REPORTERS) (sym (split-count (reporter_count document) document.script.items scripts split)) usable.few_reporters

    pub are-scripts : AreOfReporters (tasks_in document) (link_count document) scripts
    are-scripts = split-scripts (reporter_count document) document.script.items scripts split (tasks_in document) (link_count document) fit-in

    pub room-scripts : reports_in scripts ≤ MAX_REPORTS
    room-scripts = le_trans (split-within (reporter_count document) document.script.items scripts split) usable.few_reports
