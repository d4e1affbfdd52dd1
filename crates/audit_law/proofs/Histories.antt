-- The lines of a history, there and back.
use Rattle.std.proofs.Common.{◌≡◌, ◌<◌, ◌≤◌, ◌+◌, ◌^◌, ◌++◌, ◌==◌, ◌&&◌, ℕ, zero, suc, Bool, true, false, cond, List, [], ◌∷◌, length, get_or, set, take, nat_lt, Option, Some, None, Result, Ok, Err, refl, sym, ap, ◌∙◌, subst, arith, inl, inr, All, append_assoc, append-nil, replicate}
use Rattle.std.specs.Prelude.{slice_get, slice_index, slice_index_or, slice_set}
use Rattle.std.specs.List.{sum_by}
use Rattle.std.proofs.lemmas.List.{get_or-set_same, get_or-set_other, get_or-replicate, length-append, length-replicate, length-set, length_push, get_or_past, take_more, take_all}
use Rattle.std.proofs.lemmas.List.Elements.{All-head, All-nil, All-push, All-tail, filter-append}
use Rattle.std.proofs.lemmas.List.Sums.{sum_by-cons, sum_by-set}
use Rattle.std.proofs.lemmas.Option.{get_or_from_slice_get, slice_get_within}
use Rattle.std.proofs.lemmas.Bool.{and_from, and_parts, cases_eq, cases_lt, eq-eqb, eqb-true, lt-ltb, ltb-false, ne_eqb}
use Rattle.bwe_specs.specs.declared.report.Report.{Report}
use Rattle.bwe_specs.specs.declared.report.Target.{Target}
use Rattle.bwe_specs.specs.declared.report.Target.TheVariants.{Task, Link}
use Rattle.bwe_specs.specs.Reports.{reports_of}
use Rattle.bwe_specs.specs.Fit.{IsFit, IsInRange}
use Rattle.text_scan.specs.Words.{words_of}
use Rattle.doc_names.specs.NameTexts.{NameTexts}
use Rattle.run_audit.specs.Forms.{history_of, report_of}
use Rattle.run_audit.specs.History.{Printed, Reported, begins, continue_with, fault, history_in, is_line_of, is_of, line_after, next_of, none_printed, take_line, take_lines, take_next, take_words, total_of, with_report}
use Rattle.run_audit.specs.declared.forms.ReportWords.{ReportWords}
use Rattle.run_audit.specs.declared.verdict.Fault.{Fault}
use Rattle.run_audit.specs.declared.verdict.AuditCause.TheVariants.{Form, Script}
use Rattle.run_audit.proofs.Takes.{lines_full}
use Rattle.audit_law.specs.ClosedRun.{AreNames, AreScripts, IsInterleaving}
use Rattle.audit_law.proofs.Lines.{spaced, spaced_words}
use Rattle.audit_law.proofs.LineForms.{IsNamed, history_line, history_printed, history_read, own_target, report_line, report_printed, report_read}
use Rattle.audit_law.proofs.Clean.{history_clean, report_clean, words_printed}

-- ---- sums

abbrev pub sum_of : List ℕ → ℕ
sum_of taken = sum_by (λ (count : ℕ). count) taken

-- as many or fewer of each script, so as many or fewer of all
sum-le : (taken : List ℕ) (scripts : List (List Report)) → length taken ≡ length scripts
    → ((number : ℕ) → number < length scripts → get_or taken number 0 ≤ length (get_or scripts number [])) → sum_of taken ≤ total_of scripts
sum-le [] [] same each = omega arith
sum-le [] (script ∷ scripts) same each = absurd (omega (arith, same))
sum-le (count ∷ taken) [] same each = absurd (omega (arith, same))
sum-le (count ∷ taken) (script ∷ scripts) same each =
    omega (
      arith,
      sum_by-cons (λ (count : ℕ). count) count taken,
      sum_by-cons (λ (list : List Report). length list) script scripts,
      each 0 (omega arith),
      sum-le taken scripts (omega (arith, same)) (λ number within. each (suc number) (omega (arith, within))),
    )

-- as many or fewer of each, and not fewer of all, so as many of each
sum-tight : (taken : List ℕ) (scripts : List (List Report)) → length taken ≡ length scripts
    → ((number : ℕ) → number < length scripts → get_or taken number 0 ≤ length (get_or scripts number [])) → total_of scripts ≤ sum_of taken
    → (number : ℕ) → number < length scripts → get_or taken number 0 ≡ length (get_or scripts number [])
sum-tight [] [] same each full number within = absurd (omega (arith, within))
sum-tight [] (script ∷ scripts) same each full number within = absurd (omega (arith, same))
sum-tight (count ∷ taken) [] same each full number within = absurd (omega (arith, same))
sum-tight (count ∷ taken) (script ∷ scripts) same each full zero within =
    omega (
      arith,
      sum_by-cons (λ (count : ℕ). count) count taken,
      sum_by-cons (λ (list : List Report). length list) script scripts,
      each 0 (omega arith),
      full,
      sum-le taken scripts (omega (arith, same)) (λ number within. each (suc number) (omega (arith, within))),
    )
sum-tight (count ∷ taken) (script ∷ scripts) same each full (suc number) within =
    sum-tight taken scripts (omega (arith, same)) (λ number within. each (suc number) (omega (arith, within)))
    (omega (arith, sum_by-cons (λ (count : ℕ). count) count taken, sum_by-cons (λ (list : List Report). length list) script scripts, each 0 (omega arith), full))
    number (omega (arith, within))

-- as many of each, so as many of all
sum-same : (taken : List ℕ) (scripts : List (List Report)) → length taken ≡ length scripts
    → ((number : ℕ) → number < length scripts → get_or taken number 0 ≡ length (get_or scripts number [])) → sum_of taken ≡ total_of scripts
sum-same [] [] same each = refl
sum-same [] (script ∷ scripts) same each = absurd (omega (arith, same))
sum-same (count ∷ taken) [] same each = absurd (omega (arith, same))
sum-same (count ∷ taken) (script ∷ scripts) same each =
    omega (
      arith,
      sum_by-cons (λ (count : ℕ). count) count taken,
      sum_by-cons (λ (list : List Report). length list) script scripts,
      each 0 (omega arith),
      sum-same taken scripts (omega (arith, same)) (λ number within. each (suc number) (omega (arith, within))),
    )

-- ---- what has been taken of the scripts

-- so many reports of each reporter are done
pub record HasTaken (tasks links : ℕ) (scripts : List (List Report)) (done : List Report) (taken : List ℕ) : Type 0 where
  pub same : length taken ≡ length scripts
  pub sum_so : length done ≡ sum_of taken
  pub counted : (number : ℕ) → number < length scripts → get_or taken number 0 ≡ length (reports_of number done)
  pub within : (number : ℕ) → number < length scripts → get_or taken number 0 ≤ length (get_or scripts number [])
  pub no_other : All (λ report. (report.reporter < length scripts) × IsFit tasks links report) done

reports-push : (number : ℕ) (done : List Report) (report : Report) → reports_of number (done ++ report ∷ []) ≡ reports_of number done ++ cond (report.reporter == number) (report ∷ []) []
reports-push number done report = filter-append (λ (r : Report). r.reporter == number) done (report ∷ [])

reports-own : (number : ℕ) (done : List Report) (report : Report) → report.reporter ≡ number → reports_of number (done ++ report ∷ []) ≡ reports_of number done ++ report ∷ []
reports-own number done report own =
    reports-push number done report ∙ ap (λ (b : Bool). reports_of number done ++ cond b (report ∷ []) []) (eq-eqb report.reporter number own)

reports-other : (number : ℕ) (done : List Report) (report : Report) → (report.reporter ≡ number → ⊥) → reports_of number (done ++ report ∷ []) ≡ reports_of number done
reports-other number done report other =
    reports-push number done report ∙ ap (λ (b : Bool). reports_of number done ++ cond b (report ∷ []) []) (ne_eqb report.reporter number other) ∙ append-nil (reports_of number done)

zeros : (count : ℕ) → sum_of (replicate count 0) ≡ 0
zeros zero = refl
zeros (suc count) = omega (arith, sum_by-cons (λ (count : ℕ). count) 0 (replicate count 0), zeros count)

pub taken_none : (tasks links : ℕ) (scripts : List (List Report)) → HasTaken tasks links scripts [] (replicate (length scripts) 0)
taken_none tasks links scripts = record {
  same = length-replicate (length scripts) 0;
  sum_so = sym (zeros (length scripts));
  counted = λ number lt. get_or-replicate (length scripts) number 0 0 lt;
  within = λ number lt. omega (arith, get_or-replicate {A = ℕ} (length scripts) number 0 0 lt);
  no_other = All-nil (λ (report : Report). (report.reporter < length scripts) × IsFit tasks links report);
}

module _ (tasks links : ℕ) (scripts : List (List Report)) (done : List Report) (taken : List ℕ) (report : Report) where
  pub taken_more : HasTaken tasks links scripts done taken → report.reporter < length scripts → IsFit tasks links report
      → get_or taken report.reporter 0 < length (get_or scripts report.reporter [])
      → HasTaken tasks links scripts (done ++ report ∷ []) (set taken report.reporter (get_or taken report.reporter 0 + 1))
  taken_more has there fit left = record {
    same = length-set taken report.reporter (get_or taken report.reporter 0 + 1) ∙ has.same;
    sum_so = omega (arith, length_push done report, has.sum_so, has.same, sum_by-set (λ (count : ℕ). count) taken report.reporter (get_or taken report.reporter 0 + 1) 0 (omega (arith, there, has.same)));
    counted = counted_more;
    within = within_more;
    no_other = All-push (λ (report : Report). (report.reporter < length scripts) × IsFit tasks links report) done report has.no_other (there, fit);
  }
    where
      here : get_or (set taken report.reporter (get_or taken report.reporter 0 + 1)) report.reporter 0 ≡ get_or taken report.reporter 0 + 1
      here = get_or-set_same taken report.reporter (get_or taken report.reporter 0 + 1) 0 (omega (arith, there, has.same))

      other : (number : ℕ) → (report.reporter ≡ number → ⊥) → get_or (set taken report.reporter (get_or taken report.reporter 0 + 1)) number 0 ≡ get_or taken number 0
      other number differs = get_or-set_other taken report.reporter number (get_or taken report.reporter 0 + 1) 0 (λ e. differs (sym e))

      own : get_or (set taken report.reporter (get_or taken report.reporter 0 + 1)) report.reporter 0 ≡ length (reports_of report.reporter (done ++ report ∷ []))
      own = omega (arith, here, has.counted report.reporter there, ap length (reports-own report.reporter done report refl), length_push (reports_of report.reporter done) report)

      counted_more : (number : ℕ) → number < length scripts → get_or (set taken report.reporter (get_or taken report.reporter 0 + 1)) number 0 ≡ length (reports_of number (done ++ report ∷ []))
      counted_more number lt = elim (cases_eq report.reporter number) [
        | inl same ↦ subst (λ (n : ℕ). get_or (set taken report.reporter (get_or taken report.reporter 0 + 1)) n 0 ≡ length (reports_of n (done ++ report ∷ []))) same own
        | inr differs ↦ other number differs ∙ has.counted number lt ∙ sym (ap length (reports-other number done report differs))
      ]

      within_more : (number : ℕ) → number < length scripts → get_or (set taken report.reporter (get_or taken report.reporter 0 + 1)) number 0 ≤ length (get_or scripts number [])
      within_more number lt = elim (cases_eq report.reporter number) [
        | inl same ↦ subst (λ (n : ℕ). get_or (set taken report.reporter (get_or taken report.reporter 0 + 1)) n 0 ≤ length (get_or scripts n [])) same (omega (arith, here, left))
        | inr differs ↦ omega (arith, other number differs, has.within number lt)
      ]

-- ---- the lines of reports

-- a row for each report, with its place
abbrev pub report_lines : NameTexts → ℕ → List Report → List (List ℕ)
report_lines names place [] = []
report_lines names place (report ∷ reports) = spaced (report_line names place report) ∷ report_lines names (suc place) reports

slice_get-at : (front : List Report) (report : Report) (later : List Report) (place : ℕ) → place ≡ length front → slice_get (front ++ report ∷ later) place ≡ Some report
slice_get-at [] report later zero is = refl
slice_get-at [] report later (suc place) is = absurd (omega (arith, is))
slice_get-at (first ∷ front) report later zero is = absurd (omega (arith, is))
slice_get-at (first ∷ front) report later (suc place) is = slice_get-at front report later place (omega (arith, is))

reports-split : (number : ℕ) (done later : List Report) (report : Report) → report.reporter ≡ number → reports_of number (done ++ report ∷ later) ≡ reports_of number done ++ report ∷ reports_of number later
reports-split number done later report own =
    filter-append (λ (r : Report). r.reporter == number) done (report ∷ later)
    ∙ ap (λ (b : Bool). reports_of number done ++ cond b (report ∷ reports_of number later) (reports_of number later)) (eq-eqb report.reporter number own)

All-drop-append : (P : Report → Type 0) (front later : List Report) → All P (front ++ later) → All P later
All-drop-append P [] later all = all
All-drop-append P (first ∷ front) later all = All-drop-append P front later (All-tail P first (front ++ later) all)

-- the next report of a history is of the scripts and is taken too, and the history stays theirs
record TakesNext (tasks links : ℕ) (scripts : List (List Report)) (done later : List Report) (taken : List ℕ) (report : Report) : Type 0 where
  whole : (done ++ report ∷ []) ++ later ≡ done ++ report ∷ later
  legal : IsInterleaving tasks links scripts ((done ++ report ∷ []) ++ later)
  allowed : (report.reporter < length scripts) × IsFit tasks links report
  has : HasTaken tasks links scripts (done ++ report ∷ []) (set taken report.reporter (get_or taken report.reporter 0 + 1))

takes_next : (tasks links : ℕ) (scripts : List (List Report)) (done later : List Report) (taken : List ℕ) (report : Report) → HasTaken tasks links scripts done taken
    → IsInterleaving tasks links scripts (done ++ report ∷ later) → TakesNext tasks links scripts done later taken report
takes_next tasks links scripts done later taken report has legal = record {
  whole = whole;
  legal = subst (IsInterleaving tasks links scripts) (sym whole) legal;
  allowed = allowed;
  has = taken_more tasks links scripts done taken report has allowed.0 allowed.1 (omega (arith, has.counted report.reporter allowed.0, script_is));
}
  where
    whole : (done ++ report ∷ []) ++ later ≡ done ++ report ∷ later
    whole = append_assoc done (report ∷ []) later

    allowed : (report.reporter < length scripts) × IsFit tasks links report
    allowed = All-head (λ (r : Report). (r.reporter < length scripts) × IsFit tasks links r) report later (All-drop-append (λ (r : Report). (r.reporter < length scripts) × IsFit tasks links r) done (report ∷ later) legal.no_other)

    script_is : length (slice_index_or scripts report.reporter []) ≡ length (reports_of report.reporter done) + suc (length (reports_of report.reporter later))
    script_is = ap length (sym (legal.each report.reporter allowed.0) ∙ reports-split report.reporter done later report refl) ∙ length-append (reports_of report.reporter done) (report ∷ reports_of report.reporter later)

pub lines_next : (names : NameTexts) (scripts : List (List Report)) (printed next : Printed) (line : List ℕ) (lines : List (List ℕ)) → length printed.reports < total_of scripts
    → take_line names scripts printed line ≡ Ok next → take_lines names scripts printed (line ∷ lines) ≡ take_lines names scripts next lines
unfolding take_lines
lines_next names scripts printed next line lines short is =
    ap (λ (b : Bool). cond {A = Result Reported Fault} b (continue_with (λ next. take_lines names scripts next lines) (take_line names scripts printed line)) (Ok (record { reports = printed.reports; lines = line ∷ lines }))) (lt-ltb (length printed.reports) (total_of scripts) short)
    ∙ ap (continue_with (λ next. take_lines names scripts next lines)) is

target_named : (names : NameTexts) (tasks links : ℕ) (target : Target) → tasks ≤ length names.tasks → links ≤ length names.links → IsInRange tasks links target → IsNamed names target
target_named names tasks links (Task number) known linked within = omega (arith, known, within)
target_named names tasks links (Link number) known linked within = omega (arith, linked, within)

module _ (names : NameTexts) (are : AreNames names) (tasks links : ℕ) (scripts : List (List Report)) (given : AreScripts names tasks links scripts) where
  -- the line of the next report is taken
  line_taken : (done later : List Report) (taken : List ℕ) (report : Report) → HasTaken tasks links scripts done taken → IsInterleaving tasks links scripts (done ++ report ∷ later)
      → report.reporter < length scripts → IsFit tasks links report → length done < 2 ^ 64
      → take_line names scripts (record { reports = done; taken = taken }) (spaced (report_line names (length done) report))
      ≡ Ok (record { reports = done ++ report ∷ []; taken = slice_set taken report.reporter (slice_index taken report.reporter + 1) })
  unfolding take_line take_words take_next is_line_of
  line_taken done later taken report has legal there fit small =
      ap (λ (words : List (List ℕ)). take_words names scripts printed words (report_of names words)) (words_printed words (omega arith) (report_clean names are (length done) report small (omega (arith, fit.1))))
      ∙ ap (take_words names scripts printed words) (report_printed names are (length done) report small (omega (arith, there, given.reporters_named)) (target_named names tasks links report.target given.tasks_named given.links_named fit.0) (omega (arith, fit.1)))
      ∙ ap (take_next names printed words told) next
      ∙ ap (λ (b : Bool). cond {A = Result Printed Fault} b (Ok (with_report printed report.reporter report)) (fault (line_after printed) Script)) is_line
    where
      printed : Printed
      printed = record { reports = done; taken = taken }

      words : List (List ℕ)
      words = report_line names (length done) report

      told : ReportWords
      told = record { place = length done; reporter = report.reporter; amount = report.amount }

      script_is : slice_index_or scripts report.reporter [] ≡ reports_of report.reporter done ++ report ∷ reports_of report.reporter later
      script_is = sym (legal.each report.reporter there) ∙ reports-split report.reporter done later report refl

      next : next_of scripts taken report.reporter ≡ Some report
      next =
          ap (λ (script : List Report). slice_get script (slice_index taken report.reporter)) script_is
          ∙ slice_get-at (reports_of report.reporter done) report (reports_of report.reporter later) (slice_index taken report.reporter) (has.counted report.reporter there)

      is_line : is_line_of names words told (length done) report ≡ true
      is_line =
          and_from (length done == length done) ((report.amount == report.amount) && is_of names words report.target) (eq-eqb (length done) (length done) refl)
          (and_from (report.amount == report.amount) (is_of names words report.target) (eq-eqb report.amount report.amount refl) (own_target names (length done) report.reporter report.target report.amount))

  -- all reports of the scripts are taken
  pub all_taken : (later done : List Report) (taken : List ℕ) (lines : List (List ℕ)) → HasTaken tasks links scripts done taken → IsInterleaving tasks links scripts (done ++ later)
      → take_lines names scripts (record { reports = done; taken = taken }) (report_lines names (length done) later ++ lines) ≡ Ok (record { reports = done ++ later; lines = lines })
  all_taken [] done taken lines has legal =
      lines_full names scripts (record { reports = done; taken = taken }) lines (omega (arith, has.sum_so, all))
      ∙ ap (λ (reports : List Report). Ok (record { reports = reports; lines = lines })) (sym (append-nil done))
    where
      all : sum_of taken ≡ total_of scripts
      all = sum-same taken scripts has.same (λ number lt. has.counted number lt ∙ ap (λ (reports : List Report). length (reports_of number reports)) (sym (append-nil done)) ∙ ap length (legal.each number lt))
  all_taken (report ∷ later) done taken lines has legal =
      lines_next names scripts (record { reports = done; taken = taken }) (record { reports = done ++ report ∷ []; taken = set taken report.reporter (get_or taken report.reporter 0 + 1) })
      (spaced (report_line names (length done) report)) (report_lines names (suc (length done)) later ++ lines) short
      (line_taken done later taken report has legal next_one.allowed.0 next_one.allowed.1 (omega (arith, short, given.few)))
      ∙ ap (λ (place : ℕ). take_lines names scripts next (report_lines names place later ++ lines)) (omega (arith, length_push done report))
      ∙ all_taken later (done ++ report ∷ []) (set taken report.reporter (get_or taken report.reporter 0 + 1)) lines next_one.has next_one.legal
      ∙ ap (λ (reports : List Report). Ok (record { reports = reports; lines = lines })) next_one.whole
    where
      next : Printed
      next = record { reports = done ++ report ∷ []; taken = set taken report.reporter (get_or taken report.reporter 0 + 1) }

      next_one : TakesNext tasks links scripts done later taken report
      next_one = takes_next tasks links scripts done later taken report has legal

      short : length done < total_of scripts
      short = omega (arith, next_one.has.sum_so, length_push done report, sum-le (set taken report.reporter (get_or taken report.reporter 0 + 1)) scripts next_one.has.same next_one.has.within)

  -- a history's lines begin a text as they have to
  pub history_taken : (history : List Report) (lines : List (List ℕ)) → IsInterleaving tasks links scripts history → length history ≡ total_of scripts
      → history_in names scripts (spaced (history_line (length history)) ∷ report_lines names 0 history ++ lines) ≡ Ok (record { reports = history; lines = lines })
  unfolding history_in
  history_taken history lines legal all =
      ap (λ (words : List (List ℕ)). begins (total_of scripts) (history_of words) rest) (words_printed (history_line (length history)) (omega arith) (history_clean (length history) small))
      ∙ ap (λ (number : Option ℕ). begins (total_of scripts) number rest) (history_printed (length history) small)
      ∙ ap (λ (b : Bool). cond {A = Result Reported Fault} b rest (fault 0 Script)) (eq-eqb (length history) (total_of scripts) all)
      ∙ all_taken history [] (replicate (length scripts) 0) lines (taken_none tasks links scripts) legal
    where
      small : length history < 2 ^ 64
      small = omega (arith, all, given.few)

      rest : Result Reported Fault
      rest = take_lines names scripts (none_printed scripts) (report_lines names 0 history ++ lines)

-- ---- how long a history is

module _ (tasks links : ℕ) (scripts : List (List Report)) where
  whole_taken : (later done : List Report) (taken : List ℕ) → HasTaken tasks links scripts done taken → IsInterleaving tasks links scripts (done ++ later)
      → (all : List ℕ) × HasTaken tasks links scripts (done ++ later) all
  whole_taken [] done taken has legal = (taken, subst (λ (reports : List Report). HasTaken tasks links scripts reports taken) (sym (append-nil done)) has)
  whole_taken (report ∷ later) done taken has legal =
      let rest = whole_taken later (done ++ report ∷ []) (set taken report.reporter (get_or taken report.reporter 0 + 1)) next_one.has next_one.legal in
      (rest.0, subst (λ (reports : List Report). HasTaken tasks links scripts reports rest.0) next_one.whole rest.1)
    where
      next_one : TakesNext tasks links scripts done later taken report
      next_one = takes_next tasks links scripts done later taken report has legal

  -- a history of the scripts has as many reports as they
  pub history_length : (history : List Report) → IsInterleaving tasks links scripts history → length history ≡ total_of scripts
  history_length history legal =
      let whole = whole_taken history [] (replicate (length scripts) 0) (taken_none tasks links scripts) legal in
      whole.1.sum_so ∙ sum-same whole.0 scripts whole.1.same (λ number lt. whole.1.counted number lt ∙ ap length (legal.each number lt))

-- ---- the other way round

-- the reports that are done of each reporter begin its script
unfoldable pub Begin : List (List Report) → List Report → Type 0
Begin scripts done = (number : ℕ) → number < length scripts → take (length (reports_of number done)) (get_or scripts number []) ≡ reports_of number done

pub begin_none : (scripts : List (List Report)) → Begin scripts []
unfolding Begin
begin_none scripts number lt = refl

next_there : (script : List Report) (place : ℕ) (report : Report) → slice_get script place ≡ Some report
    → (place < length script) × (take (place + 1) script ≡ take place script ++ report ∷ []) × ((P : Report → Type 0) → All P script → P report)
next_there script place report is =
    let within : place < length script = slice_get_within script place report is in
    let here : get_or script place report ≡ report = get_or_from_slice_get script place report report is in
    (within, take_more script place report within ∙ ap (λ (r : Report). take place script ++ r ∷ []) here, λ P all. subst P here (all place report within))

nothing_past : (scripts : List (List Report)) (number place : ℕ) (report : Report) → slice_get (get_or scripts number []) place ≡ Some report → number < length scripts
nothing_past scripts number place report is = elim (cases_lt number (length scripts)) [
  | inl within ↦ within
  | inr past ↦ absurd (none (get_or scripts number []) (get_or_past scripts number [] past) is)
]
  where
    none : (script : List Report) → script ≡ [] → slice_get script place ≡ Some report → ⊥
    none [] same is = absurd cc
    none (first ∷ script) same is = absurd cc

module _ (names : NameTexts) (tasks links : ℕ) (scripts : List (List Report)) (given : AreScripts names tasks links scripts) where
  -- the report of a line that was taken
  pub record IsTaken (printed next : Printed) (line : List ℕ) : Type 0 where
    pub report : Report
    pub there : report.reporter < length scripts
    pub fit : IsFit tasks links report
    pub place : slice_get (get_or scripts report.reporter []) (get_or printed.taken report.reporter 0) ≡ Some report
    pub line_so : line ≡ spaced (report_line names (length printed.reports) report)
    pub next_so : next ≡ with_report printed report.reporter report

  pub line_read : (printed next : Printed) (line : List ℕ) → take_line names scripts printed line ≡ Ok next → IsTaken printed next line
  unfolding take_line take_words take_next is_line_of
  line_read printed next line is = words (report_of names (words_of line)) refl is where
    words : (told : Option ReportWords) → report_of names (words_of line) ≡ told → take_words names scripts printed (words_of line) told ≡ Ok next → IsTaken printed next line
    words None read is = absurd cc
    words (Some told) read is = found (next_of scripts printed.taken told.reporter) refl is where
      found : (report : Option Report) → next_of scripts printed.taken told.reporter ≡ report → take_next names printed (words_of line) told report ≡ Ok next → IsTaken printed next line
      found None here is = absurd cc
      found (Some report) here is = test (is_line_of names (words_of line) told (length printed.reports) report) refl is where
        there : told.reporter < length scripts
        there = nothing_past scripts told.reporter (get_or printed.taken told.reporter 0) report here

        own : (report.reporter ≡ told.reporter) × IsFit tasks links report
        own = (next_there (get_or scripts told.reporter []) (get_or printed.taken told.reporter 0) report here).2 (λ (r : Report). (r.reporter ≡ told.reporter) × IsFit tasks links r) (given.own told.reporter there)

        test : (b : Bool) → is_line_of names (words_of line) told (length printed.reports) report ≡ b
            → ◌≡◌ {A = Result Printed Fault} (cond {A = Result Printed Fault} b (Ok (with_report printed told.reporter report)) (fault (line_after printed) Script)) (Ok next)
            → IsTaken printed next line
        test false right e = absurd cc
        test true right e =
            let parts = and_parts (told.place == length printed.reports) ((told.amount == report.amount) && is_of names (words_of line) report.target) right in
            let amounts = and_parts (told.amount == report.amount) (is_of names (words_of line) report.target) parts.1 in
            let place : told.place ≡ length printed.reports = eqb-true told.place (length printed.reports) parts.0 in
            let amount : told.amount ≡ report.amount = eqb-true told.amount report.amount amounts.0 in
            let printed_so : with_report printed told.reporter report ≡ next = cc in
            record {
              report = report;
              there = subst (λ (n : ℕ). n < length scripts) (sym own.0) there;
              fit = own.1;
              place = subst (λ (n : ℕ). slice_get (get_or scripts n []) (get_or printed.taken n 0) ≡ Some report) (sym own.0) here;
              line_so =
                  spaced_words line
                  ∙ ap spaced (report_read names (words_of line) told report.target read amounts.1).0
                  ∙ ap (λ (n : ℕ). spaced (report_line names n (record { reporter = told.reporter; target = report.target; amount = told.amount }))) place
                  ∙ ap (λ (n : ℕ). spaced (report_line names (length printed.reports) (record { reporter = n; target = report.target; amount = told.amount }))) (sym own.0)
                  ∙ ap (λ (n : ℕ). spaced (report_line names (length printed.reports) (record { reporter = report.reporter; target = report.target; amount = n }))) amount;
              next_so = sym printed_so ∙ ap (λ (n : ℕ). with_report printed n report) (sym own.0);
            }

  pub begin_more : (done : List Report) (taken : List ℕ) (report : Report) → HasTaken tasks links scripts done taken → Begin scripts done → report.reporter < length scripts
      → slice_get (get_or scripts report.reporter []) (get_or taken report.reporter 0) ≡ Some report → Begin scripts (done ++ report ∷ [])
  unfolding Begin
  begin_more done taken report has begin there place number lt = elim (cases_eq report.reporter number) [
    | inl same ↦ subst (λ (n : ℕ). take (length (reports_of n (done ++ report ∷ []))) (get_or scripts n []) ≡ reports_of n (done ++ report ∷ [])) same own
    | inr differs ↦ subst (λ (reports : List Report). take (length reports) (get_or scripts number []) ≡ reports) (sym (reports-other number done report differs)) (begin number lt)
  ]
    where
      count : ℕ
      count = length (reports_of report.reporter done)

      placed : slice_get (get_or scripts report.reporter []) count ≡ Some report
      placed = subst (λ (n : ℕ). slice_get (get_or scripts report.reporter []) n ≡ Some report) (has.counted report.reporter there) place

      longer : take (length (reports_of report.reporter done ++ report ∷ [])) (get_or scripts report.reporter []) ≡ reports_of report.reporter done ++ report ∷ []
      longer =
          ap (λ (n : ℕ). take n (get_or scripts report.reporter [])) (length_push (reports_of report.reporter done) report)
          ∙ (next_there (get_or scripts report.reporter []) count report placed).1
          ∙ ap (λ (front : List Report). front ++ report ∷ []) (begin report.reporter there)

      own : take (length (reports_of report.reporter (done ++ report ∷ []))) (get_or scripts report.reporter []) ≡ reports_of report.reporter (done ++ report ∷ [])
      own = subst (λ (reports : List Report). take (length reports) (get_or scripts report.reporter []) ≡ reports) (sym (reports-own report.reporter done report refl)) longer

  -- what follows a front of the history, and the lines of that
  record IsRead (done : List Report) (lines : List (List ℕ)) (reported : Reported) : Type 0 where
    later : List Report
    reports_so : reported.reports ≡ done ++ later
    lines_so : lines ≡ report_lines names (length done) later ++ reported.lines
    legal : IsInterleaving tasks links scripts reported.reports
    all : length reported.reports ≡ total_of scripts

  read_full : (done : List Report) (taken : List ℕ) (lines : List (List ℕ)) (reported : Reported) → HasTaken tasks links scripts done taken → Begin scripts done → total_of scripts ≤ length done
      → ◌≡◌ {A = Reported} (record { reports = done; lines = lines }) reported → IsRead done lines reported
  unfolding Begin
  read_full done taken lines reported has begin full is = record {
    later = [];
    reports_so = sym done_so ∙ sym (append-nil done);
    lines_so = ap (λ (r : Reported). r.lines) is;
    legal = subst (IsInterleaving tasks links scripts) done_so (record {
      each = λ number lt. sym (begin number lt) ∙ take_all (length (reports_of number done)) (get_or scripts number []) (omega (arith, tight number lt, has.counted number lt));
      no_other = has.no_other;
    });
    all = omega (arith, ap (λ (r : Reported). length r.reports) is, has.sum_so, full, sum-le taken scripts has.same has.within);
  }
    where
      done_so : done ≡ reported.reports
      done_so = ap (λ (r : Reported). r.reports) is

      tight : (number : ℕ) → number < length scripts → get_or taken number 0 ≡ length (get_or scripts number [])
      tight = sum-tight taken scripts has.same has.within (omega (arith, full, has.sum_so))

  lines_read : (lines : List (List ℕ)) (done : List Report) (taken : List ℕ) (reported : Reported) → HasTaken tasks links scripts done taken → Begin scripts done
      → take_lines names scripts (record { reports = done; taken = taken }) lines ≡ Ok reported → IsRead done lines reported
  unfolding take_lines
  lines_read [] done taken reported has begin is = go (nat_lt (length done) (total_of scripts)) refl is where
    go : (b : Bool) → nat_lt (length done) (total_of scripts) ≡ b
        → ◌≡◌ {A = Result Reported Fault} (cond {A = Result Reported Fault} b (fault (line_after (record { reports = done; taken = taken })) Form) (Ok (record { reports = done; lines = [] }))) (Ok reported)
        → IsRead done [] reported
    go true test e = absurd cc
    go false test e = read_full done taken [] reported has begin (ltb-false (length done) (total_of scripts) test) cc
  lines_read (line ∷ lines) done taken reported has begin is =
      go (nat_lt (length done) (total_of scripts)) refl (λ next taken' more begun rest. lines_read lines next taken' reported more begun rest) is
    where
      printed : Printed
      printed = record { reports = done; taken = taken }

      Later : Type 0
      Later = (next : List Report) (taken' : List ℕ) → HasTaken tasks links scripts next taken' → Begin scripts next
          → take_lines names scripts (record { reports = next; taken = taken' }) lines ≡ Ok reported → IsRead next lines reported

      one : Later → (next : Printed) → take_line names scripts printed line ≡ Ok next → take_lines names scripts next lines ≡ Ok reported → IsRead done (line ∷ lines) reported
      one later next taken_so rest =
          let here : IsTaken printed next line = line_read printed next line taken_so in
          let report : Report = here.report in
          let more : HasTaken tasks links scripts (done ++ report ∷ []) (set taken report.reporter (get_or taken report.reporter 0 + 1)) =
          taken_more tasks links scripts done taken report has here.there here.fit (slice_get_within (get_or scripts report.reporter []) (get_or taken report.reporter 0) report here.place) in
          let read : IsRead (done ++ report ∷ []) lines reported =
          later (done ++ report ∷ []) (set taken report.reporter (get_or taken report.reporter 0 + 1)) more (begin_more done taken report has begin here.there here.place)
          (subst (λ (n : Printed). take_lines names scripts n lines ≡ Ok reported) here.next_so rest) in
          let places : length (done ++ report ∷ []) ≡ suc (length done) = omega (arith, length_push done report) in
          record {
            later = report ∷ read.later;
            reports_so = read.reports_so ∙ append_assoc done (report ∷ []) read.later;
            lines_so =
                ap (λ (first : List ℕ). first ∷ lines) here.line_so
                ∙ ap (λ (rest : List (List ℕ)). spaced (report_line names (length done) report) ∷ rest) (read.lines_so ∙ ap (λ (n : ℕ). report_lines names n read.later ++ reported.lines) places);
            legal = read.legal;
            all = read.all;
          }

      step : Later → (answer : Result Printed Fault) → take_line names scripts printed line ≡ answer → continue_with (λ next. take_lines names scripts next lines) answer ≡ Ok reported → IsRead done (line ∷ lines) reported
      step later (Err error) answered rest = absurd cc
      step later (Ok next) answered rest = one later next answered rest

      go : (b : Bool) → nat_lt (length done) (total_of scripts) ≡ b → Later
          → ◌≡◌ {A = Result Reported Fault} (cond {A = Result Reported Fault} b (continue_with (λ next. take_lines names scripts next lines) (take_line names scripts printed line)) (Ok (record { reports = done; lines = line ∷ lines }))) (Ok reported)
          → IsRead done (line ∷ lines) reported
      go true test later e = step later (take_line names scripts printed line) refl e
      go false test later e = read_full done taken (line ∷ lines) reported has begin (ltb-false (length done) (total_of scripts) test) cc

  -- what a text has to begin with to be read as a history
  pub record IsHistory (lines : List (List ℕ)) (reported : Reported) : Type 0 where
    pub lines_so : lines ≡ spaced (history_line (length reported.reports)) ∷ report_lines names 0 reported.reports ++ reported.lines
    pub legal : IsInterleaving tasks links scripts reported.reports
    pub all : length reported.reports ≡ total_of scripts

  pub history_is : (lines : List (List ℕ)) (reported : Reported) → history_in names scripts lines ≡ Ok reported → IsHistory lines reported
  unfolding history_in
  history_is [] reported is = absurd cc
  history_is (line ∷ lines) reported is = go (history_of (words_of line)) refl is where
    rest : Result Reported Fault
    rest = take_lines names scripts (none_printed scripts) lines

    go : (number : Option ℕ) → history_of (words_of line) ≡ number → begins (total_of scripts) number rest ≡ Ok reported → IsHistory (line ∷ lines) reported
    go None read e = absurd cc
    go (Some number) read e = test (number == total_of scripts) refl e where
      test : (b : Bool) → (number == total_of scripts) ≡ b → ◌≡◌ {A = Result Reported Fault} (cond {A = Result Reported Fault} b rest (fault 0 Script)) (Ok reported) → IsHistory (line ∷ lines) reported
      test false same e = absurd cc
      test true same e =
          let taken : IsRead [] lines reported = lines_read lines [] (replicate (length scripts) 0) reported (taken_none tasks links scripts) (begin_none scripts) e in
          let count : number ≡ length reported.reports = eqb-true number (total_of scripts) same ∙ sym taken.all in
          record {
            lines_so =
                ap (λ (first : List ℕ). first ∷ lines) (spaced_words line ∙ ap spaced (history_read (words_of line) number read) ∙ ap (λ (n : ℕ). spaced (history_line n)) count)
                ∙ ap (λ (others : List (List ℕ)). spaced (history_line (length reported.reports)) ∷ others) (taken.lines_so ∙ ap (λ (r : List Report). report_lines names 0 r ++ reported.lines) (sym taken.reports_so));
            legal = taken.legal;
            all = taken.all;
          }
