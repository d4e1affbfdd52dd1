-- The reports of a history are those of the scripts.
use Rattle.std.proofs.Common.{◌≡◌, ◌<◌, ◌==◌, ℕ, zero, suc, Bool, true, false, cond, List, [], ◌∷◌, length, Result, Ok, Err, Option, Some, None, Vec, Global, subst, arith, nat_lt, refl}
use Rattle.std.specs.Prelude.{IfSome, slice_get, slice_index_or}
use Rattle.std.specs.List.{All}
use Rattle.std.proofs.lemmas.List.Elements.{All-push}
use Rattle.bwe_specs.specs.declared.report.Report.{Report}
use Rattle.text_scan.specs.Words.{words_of}
use Rattle.doc_names.specs.NameTexts.{NameTexts}
use Rattle.run_audit.specs.Forms.{history_of, report_of}
use Rattle.bwe_specs.specs.Lists.{lists_of}
use Rattle.run_audit.specs.History.{Printed, Reported, begins, continue_with, fault, history_in, is_line_of, line_after, next_of, none_printed, take_line, take_lines, take_next, take_words, total_of, with_report}
use Rattle.run_audit.specs.declared.forms.ReportWords.{ReportWords}
use Rattle.run_audit.specs.declared.verdict.AuditCause.TheVariants.{Form, Script}
use Rattle.run_audit.specs.declared.verdict.Fault.{Fault}

module _ (P : Report → Type 0) where
  fits_at : (reports : List Report) (place : ℕ) → All P reports → IfSome (slice_get reports place) P
  fits_at [] place all = tt
  fits_at (report ∷ reports) zero all = all 0 report (omega arith)
  fits_at (report ∷ reports) (suc place) all = fits_at reports place (λ k d within. all (suc k) d (omega (arith, within)))

  -- what every report of the scripts has, the next one of any reporter has
  pub next_fits : (scripts : List (Vec Report Global)) → ((number : ℕ) (script : Vec Report Global) → number < length scripts → All P (slice_index_or scripts number script).items)
      → (reporter place : ℕ) → IfSome (slice_get (slice_index_or (lists_of scripts) reporter []) place) P
  next_fits [] all reporter place = tt
  next_fits (script ∷ scripts) all zero place = fits_at script.items place (all 0 script (omega arith))
  next_fits (script ∷ scripts) all (suc reporter) place = next_fits scripts (λ number other within. all (suc number) other (omega (arith, within))) reporter place

module _ (names : NameTexts) (scripts : List (List Report)) (P : Report → Type 0) (given : (taken : List ℕ) (reporter : ℕ) → IfSome (next_of scripts taken reporter) P) where
  taken_fits : (printed new : Printed) (words : List (List ℕ)) (told : ReportWords) (next : Option Report) → IfSome next P
      → take_next names printed words told next ≡ Ok new → All P printed.reports → All P new.reports
  unfolding take_next
  taken_fits printed new words told None fit is all = absurd cc
  taken_fits printed new words told (Some report) fit is all = go (is_line_of names words told (length printed.reports) report) is where
    go : (b : Bool) → ◌≡◌ {A = Result Printed Fault} (cond {A = Result Printed Fault} b (Ok (with_report printed told.reporter report)) (fault (line_after printed) Script)) (Ok new) → All P new.reports
    go true e = let same : with_report printed told.reporter report ≡ new = cc in subst (λ (p : Printed). All P p.reports) same (All-push P printed.reports report all fit)
    go false e = absurd cc

  words_fit : (printed new : Printed) (words : List (List ℕ)) (told : Option ReportWords) → take_words names scripts printed words told ≡ Ok new → All P printed.reports → All P new.reports
  unfolding take_words
  words_fit printed new words None is all = absurd cc
  words_fit printed new words (Some told) is all = taken_fits printed new words told (next_of scripts printed.taken told.reporter) (given printed.taken told.reporter) is all

  line_fits : (printed new : Printed) (line : List ℕ) → take_line names scripts printed line ≡ Ok new → All P printed.reports → All P new.reports
  unfolding take_line
  line_fits printed new line is all = words_fit printed new (words_of line) (report_of names (words_of line)) is all

  on_fits : (next : Printed → Result Reported Fault) (reported : Reported) → ((new : Printed) → next new ≡ Ok reported → All P new.reports → All P reported.reports)
      → (answer : Result Printed Fault) → ((new : Printed) → answer ≡ Ok new → All P new.reports) → continue_with next answer ≡ Ok reported → All P reported.reports
  on_fits next reported later (Ok new) fit is = later new is (fit new refl)
  on_fits next reported later (Err error) fit is = absurd cc

  lines_fit : (lines : List (List ℕ)) (printed : Printed) (reported : Reported) → take_lines names scripts printed lines ≡ Ok reported → All P printed.reports → All P reported.reports
  unfolding take_lines
  lines_fit [] printed reported is all = go (nat_lt (length printed.reports) (total_of scripts)) is where
    go : (b : Bool) → ◌≡◌ {A = Result Reported Fault} (cond {A = Result Reported Fault} b (fault (line_after printed) Form) (Ok (record { reports = printed.reports; lines = [] }))) (Ok reported) → All P reported.reports
    go true e = absurd cc
    go false e = let same : ◌≡◌ {A = Reported} (record { reports = printed.reports; lines = [] }) reported = cc in subst (λ (r : Reported). All P r.reports) same all
  lines_fit (line ∷ lines) printed reported is all = go (nat_lt (length printed.reports) (total_of scripts)) (λ next e fit. lines_fit lines next reported e fit) is where
    go : (b : Bool) → ((next : Printed) → take_lines names scripts next lines ≡ Ok reported → All P next.reports → All P reported.reports)
        → ◌≡◌ {A = Result Reported Fault} (cond {A = Result Reported Fault} b (continue_with (λ next. take_lines names scripts next lines) (take_line names scripts printed line)) (Ok (record { reports = printed.reports; lines = line ∷ lines }))) (Ok reported)
        → All P reported.reports
    go true later e = on_fits (λ next. take_lines names scripts next lines) reported later (take_line names scripts printed line) (λ new taken. line_fits printed new line taken all) e
    go false later e = let same : ◌≡◌ {A = Reported} (record { reports = printed.reports; lines = line ∷ lines }) reported = cc in subst (λ (r : Reported). All P r.reports) same all

  begun_fits : (total : ℕ) (number : Option ℕ) (next : Result Reported Fault) (reported : Reported) → (next ≡ Ok reported → All P reported.reports) → begins total number next ≡ Ok reported → All P reported.reports
  begun_fits total None next reported later is = absurd cc
  begun_fits total (Some number) next reported later is = go (number == total) is where
    go : (b : Bool) → ◌≡◌ {A = Result Reported Fault} (cond {A = Result Reported Fault} b next (fault 0 Script)) (Ok reported) → All P reported.reports
    go true e = later e
    go false e = absurd cc

  none : All P []
  none k d within = absurd (omega (arith, within))

  pub history_fits : (lines : List (List ℕ)) (reported : Reported) → history_in names scripts lines ≡ Ok reported → All P reported.reports
  unfolding history_in
  history_fits [] reported is = absurd cc
  history_fits (line ∷ lines) reported is =
      begun_fits (total_of scripts) (history_of (words_of line)) (take_lines names scripts (none_printed scripts) lines) reported
      (λ taken. lines_fit lines (none_printed scripts) reported taken none) is
