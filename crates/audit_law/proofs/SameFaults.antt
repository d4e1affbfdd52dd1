-- A fault is named by the lines up to it: a text with the same first lines has the same first fault.
use Rattle.std.proofs.Common.{◌≡◌, ◌<◌, ◌≤◌, ◌+◌, ◌++◌, ◌==◌, ℕ, Bool, true, false, cond, List, [], ◌∷◌, length, take, drop, nat_lt, Option, Some, None, Result, Ok, Err, refl, sym, ap, ◌∙◌, arith}
use Rattle.std.proofs.lemmas.List.{length_push, length-take-le, take-append-drop}
use Rattle.bwe_specs.specs.declared.report.Report.{Report}
use Rattle.text_scan.specs.Lines.{left_of, lines_of}
use Rattle.text_scan.specs.Words.{words_of}
use Rattle.doc_names.specs.NameTexts.{NameTexts}
use Rattle.run_audit.specs.Forms.{history_of, report_of}
use Rattle.run_audit.specs.History.{Printed, Reported, begins, continue_with, fault, history_in, is_line_of, line_after, next_of, none_printed, take_line, take_lines, take_next, take_words, total_of, with_report}
use Rattle.run_audit.specs.Walk.{Walk, Walked, after_line, due_from, is_over}
use Rattle.run_audit.specs.Verdict.{at_end, go_on, is_total, judge, judge_rest, verdict_of}
use Rattle.run_audit.specs.declared.forms.ReportWords.{ReportWords}
use Rattle.run_audit.specs.declared.verdict.AuditCause.{AuditCause}
use Rattle.run_audit.specs.declared.verdict.AuditCause.TheVariants as causes
use Rattle.run_audit.specs.declared.verdict.AuditVerdict.{AuditVerdict}
use Rattle.run_audit.specs.declared.verdict.AuditVerdict.TheVariants.{Wrong}
use Rattle.run_audit.specs.declared.verdict.Fault.{Fault}

module _ (names : NameTexts) (scripts : List (List Report)) where
  -- ---- the lines behind the history

  module _ (total_at : ℕ → ℕ) where
    -- no line is named that was judged before
    pub fault_least : (left : List ℕ) (lines : List (List ℕ)) (walk : Walk) (number line : ℕ) (cause : AuditCause) → judge names scripts total_at left walk number lines ≡ Wrong line cause → number ≤ line
    unfolding judge
    fault_least left [] walk number line cause is = end (is_over walk) left is where
      end : (over : Bool) (left : List ℕ) → at_end over number left ≡ Wrong line cause → number ≤ line
      end false left e = let same : number ≡ line = cc in omega arith
      end true [] e = absurd cc
      end true (byte ∷ left) e = let same : number ≡ line = cc in omega arith
    fault_least left (first ∷ lines) walk number line cause is = go (after_line names scripts walk first) (λ next later. fault_least left lines next (number + 1) line cause later) is where
      Later : Type 0
      Later = (next : Walk) → judge names scripts total_at left next (number + 1) lines ≡ Wrong line cause → number + 1 ≤ line

      go : (answer : Result Walked AuditCause) → Later → go_on total_at number (λ next. judge names scripts total_at left next (number + 1) lines) answer ≡ Wrong line cause → number ≤ line
      go (Err other) later e = let same : number ≡ line = cc in omega arith
      go (Ok walked) later e = test (is_total total_at walked.shown) e where
        test : (right : Bool) → cond right (judge names scripts total_at left walked.walk (number + 1) lines) (Wrong number causes.Total) ≡ Wrong line cause → number ≤ line
        test true e = let more : number + 1 ≤ line = later walked.walk e in omega arith
        test false e = let same : number ≡ line = cc in omega arith

    same_fault : (left left' : List ℕ) (front rest rest' : List (List ℕ)) (walk : Walk) (number line : ℕ) (cause : AuditCause) → line < number + length front
        → judge names scripts total_at left walk number (front ++ rest) ≡ Wrong line cause → judge names scripts total_at left' walk number (front ++ rest') ≡ Wrong line cause
    unfolding judge
    same_fault left left' [] rest rest' walk number line cause near is = absurd (let least : number ≤ line = fault_least left rest walk number line cause is in omega (arith, near))
    same_fault left left' (first ∷ front) rest rest' walk number line cause near is =
        go (after_line names scripts walk first) (λ next later. same_fault left left' front rest rest' next (number + 1) line cause (omega (arith, near)) later) is
      where
        Later : Type 0
        Later = (next : Walk) → judge names scripts total_at left next (number + 1) (front ++ rest) ≡ Wrong line cause → judge names scripts total_at left' next (number + 1) (front ++ rest') ≡ Wrong line cause

        go : (answer : Result Walked AuditCause) → Later → go_on total_at number (λ next. judge names scripts total_at left next (number + 1) (front ++ rest)) answer ≡ Wrong line cause
            → go_on total_at number (λ next. judge names scripts total_at left' next (number + 1) (front ++ rest')) answer ≡ Wrong line cause
        go (Err other) later e = e
        go (Ok walked) later e = test (is_total total_at walked.shown) e where
          test : (right : Bool) → cond right (judge names scripts total_at left walked.walk (number + 1) (front ++ rest)) (Wrong number causes.Total) ≡ Wrong line cause
              → cond right (judge names scripts total_at left' walked.walk (number + 1) (front ++ rest')) (Wrong number causes.Total) ≡ Wrong line cause
          test true e = later walked.walk e
          test false e = e

  -- ---- the history

  -- a line of the history that is not at fault is that of one report more, one that is is itself the line at fault
  abbrev pub IsTakenOr : Printed → Result Printed Fault → Type 0
  IsTakenOr printed (Ok next) = length next.reports ≡ length printed.reports + 1
  IsTakenOr printed (Err fault) = fault.line ≡ length printed.reports + 1

  pub one_more : (printed : Printed) (line : List ℕ) → IsTakenOr printed (take_line names scripts printed line)
  unfolding take_line take_words take_next
  one_more printed line = words (report_of names (words_of line)) where
    words : (told : Option ReportWords) → IsTakenOr printed (take_words names scripts printed (words_of line) told)
    words None = refl
    words (Some told) = found (next_of scripts printed.taken told.reporter) where
      found : (report : Option Report) → IsTakenOr printed (take_next names printed (words_of line) told report)
      found None = refl
      found (Some report) = test (is_line_of names (words_of line) told (length printed.reports) report) where
        test : (right : Bool) → IsTakenOr printed (cond {A = Result Printed Fault} right (Ok (with_report printed told.reporter report)) (fault (line_after printed) causes.Script))
        test true = omega (arith, length_push printed.reports report)
        test false = refl

  module _ (total : List Report → ℕ) (table : List (List ℕ)) where
    -- the verdict behind a history, or on its fault
    abbrev pub judged : List ℕ → Result Reported Fault → AuditVerdict
    judged left answer = judge_rest names scripts total table left answer

    abbrev pub first_walk : Walk
    first_walk = record { due = due_from scripts 0; table = table }

    pub history_least : (left : List ℕ) (lines : List (List ℕ)) (printed : Printed) (line : ℕ) (cause : AuditCause) → judged left (take_lines names scripts printed lines) ≡ Wrong line cause → length printed.reports + 1 ≤ line
    unfolding take_lines
    history_least left [] printed line cause is = go (nat_lt (length printed.reports) (total_of scripts)) is where
      go : (short : Bool) → judged left (cond {A = Result Reported Fault} short (fault (line_after printed) causes.Form) (Ok (record { reports = printed.reports; lines = [] }))) ≡ Wrong line cause → length printed.reports + 1 ≤ line
      go true e = let same : length printed.reports + 1 ≡ line = cc in omega arith
      go false e = fault_least (λ prefix. total (take prefix printed.reports)) left [] first_walk (length printed.reports + 1) line cause e
    history_least left (first ∷ lines) printed line cause is = go (nat_lt (length printed.reports) (total_of scripts)) (λ next later. history_least left lines next line cause later) is where
      Later : Type 0
      Later = (next : Printed) → judged left (take_lines names scripts next lines) ≡ Wrong line cause → length next.reports + 1 ≤ line

      step : Later → (answer : Result Printed Fault) → IsTakenOr printed answer → judged left (continue_with (λ next. take_lines names scripts next lines) answer) ≡ Wrong line cause → length printed.reports + 1 ≤ line
      step later (Ok next) more e = let least : length next.reports + 1 ≤ line = later next e in omega (arith, more)
      step later (Err fault) same e = let at : fault.line ≡ line = cc in omega (arith, same)

      go : (short : Bool) → Later
          → judged left (cond {A = Result Reported Fault} short (continue_with (λ next. take_lines names scripts next lines) (take_line names scripts printed first)) (Ok (record { reports = printed.reports; lines = first ∷ lines }))) ≡ Wrong line cause
          → length printed.reports + 1 ≤ line
      go true later e = step later (take_line names scripts printed first) (one_more printed first) e
      go false later e = fault_least (λ prefix. total (take prefix printed.reports)) left (first ∷ lines) first_walk (length printed.reports + 1) line cause e

    same_history : (left left' : List ℕ) (front rest rest' : List (List ℕ)) (printed : Printed) (line : ℕ) (cause : AuditCause) → line < length printed.reports + 1 + length front
        → judged left (take_lines names scripts printed (front ++ rest)) ≡ Wrong line cause → judged left' (take_lines names scripts printed (front ++ rest')) ≡ Wrong line cause
    unfolding take_lines
    same_history left left' [] rest rest' printed line cause near is = absurd (let least : length printed.reports + 1 ≤ line = history_least left rest printed line cause is in omega (arith, near))
    same_history left left' (first ∷ front) rest rest' printed line cause near is =
        go (nat_lt (length printed.reports) (total_of scripts)) (λ next close later. same_history left left' front rest rest' next line cause close later) is
      where
        Later : Type 0
        Later = (next : Printed) → line < length next.reports + 1 + length front
            → judged left (take_lines names scripts next (front ++ rest)) ≡ Wrong line cause → judged left' (take_lines names scripts next (front ++ rest')) ≡ Wrong line cause

        step : Later → (answer : Result Printed Fault) → IsTakenOr printed answer → judged left (continue_with (λ next. take_lines names scripts next (front ++ rest)) answer) ≡ Wrong line cause
            → judged left' (continue_with (λ next. take_lines names scripts next (front ++ rest')) answer) ≡ Wrong line cause
        step later (Ok next) more e = later next (omega (arith, near, more)) e
        step later (Err fault) same e = e

        go : (short : Bool) → Later
            → judged left (cond {A = Result Reported Fault} short (continue_with (λ next. take_lines names scripts next (front ++ rest)) (take_line names scripts printed first)) (Ok (record { reports = printed.reports; lines = first ∷ (front ++ rest) }))) ≡ Wrong line cause
            → judged left' (cond {A = Result Reported Fault} short (continue_with (λ next. take_lines names scripts next (front ++ rest')) (take_line names scripts printed first)) (Ok (record { reports = printed.reports; lines = first ∷ (front ++ rest') }))) ≡ Wrong line cause
        go true later e = step later (take_line names scripts printed first) (one_more printed first) e
        go false later e = same_fault (λ prefix. total (take prefix printed.reports)) left left' (first ∷ front) rest rest' first_walk (length printed.reports + 1) line cause near e

    -- ---- the whole text

    same_lines : (left left' : List ℕ) (front rest rest' : List (List ℕ)) (line : ℕ) (cause : AuditCause) → line < length front
        → judged left (history_in names scripts (front ++ rest)) ≡ Wrong line cause → judged left' (history_in names scripts (front ++ rest')) ≡ Wrong line cause
    unfolding history_in
    same_lines left left' [] rest rest' line cause near is = absurd (omega (arith, near))
    same_lines left left' (first ∷ front) rest rest' line cause near is = go (history_of (words_of first)) is where
      go : (number : Option ℕ) → judged left (begins (total_of scripts) number (take_lines names scripts (none_printed scripts) (front ++ rest))) ≡ Wrong line cause
          → judged left' (begins (total_of scripts) number (take_lines names scripts (none_printed scripts) (front ++ rest'))) ≡ Wrong line cause
      go None e = e
      go (Some number) e = test (number == total_of scripts) e where
        test : (right : Bool) → judged left (cond {A = Result Reported Fault} right (take_lines names scripts (none_printed scripts) (front ++ rest)) (fault 0 causes.Script)) ≡ Wrong line cause
            → judged left' (cond {A = Result Reported Fault} right (take_lines names scripts (none_printed scripts) (front ++ rest')) (fault 0 causes.Script)) ≡ Wrong line cause
        test true e = same_history left left' front rest rest' (none_printed scripts) line cause (omega (arith, near)) e
        test false e = e

  -- a text whose lines up to the one at fault are the same has that fault first
  pub same_verdict : (total : List Report → ℕ) (table text other : List ℕ) (line : ℕ) (cause : AuditCause) → line < length (lines_of text) → take (line + 1) (lines_of other) ≡ take (line + 1) (lines_of text)
      → verdict_of names scripts total table text ≡ Wrong line cause → verdict_of names scripts total table other ≡ Wrong line cause
  unfolding verdict_of
  same_verdict total table text other line cause within same is =
      ap (λ (lines : List (List ℕ)). judged total (lines_of table) (left_of other) (history_in names scripts lines)) (sym (take-append-drop (line + 1) (lines_of other)) ∙ ap (λ (first : List (List ℕ)). first ++ drop (line + 1) (lines_of other)) same)
      ∙ same_lines total (lines_of table) (left_of text) (left_of other) front (drop (line + 1) (lines_of text)) (drop (line + 1) (lines_of other)) line cause
      (omega (arith, length-take-le (line + 1) (lines_of text) (omega (arith, within))))
      (ap (λ (lines : List (List ℕ)). judged total (lines_of table) (left_of text) (history_in names scripts lines)) (take-append-drop (line + 1) (lines_of text)) ∙ is)
    where
      front : List (List ℕ)
      front = take (line + 1) (lines_of text)
