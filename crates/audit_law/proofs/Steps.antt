-- One line more behind the history; the reporters' lines and the table's, there and back.
use Rattle.std.proofs.Common.{◌≡◌, ◌<◌, ◌≤◌, ◌+◌, ◌^◌, ◌++◌, ◌==◌, ◌&&◌, ℕ, suc, Bool, true, false, cond, not, List, [], ◌∷◌, length, Option, Some, None, Result, Ok, Err, refl, sym, ap, ◌∙◌, subst, arith, append_assoc}
use Rattle.std.specs.Prelude.{slice_index_or}
use Rattle.std.specs.Str.{bytes_eq}
use Rattle.std.proofs.lemmas.List.{length-append, length_push, get_or_at}
use Rattle.std.proofs.lemmas.Bool.{and_from, and_parts, eq-eqb, eqb-true, le-ltb, lt-ltb, ne_eqb}
use Rattle.bwe_specs.specs.declared.report.Report.{Report}
use Rattle.text_scan.specs.Words.{words_of}
use Rattle.doc_names.specs.NameTexts.{NameTexts, entry_at}
use Rattle.run_audit.specs.Forms.{sent_of}
use Rattle.run_audit.specs.Walk.{Walk, Walked, after_line, after_reporter, after_table, due_from, is_over, is_reader, leads_to, sent_leads, step_from, with_table}
use Rattle.run_audit.specs.Verdict.{at_end, go_on, is_total, judge}
use Rattle.run_audit.specs.declared.due.Due.{Due}
use Rattle.run_audit.specs.declared.due.Due.TheVariants.{Reporter, Reader, Next, Table}
use Rattle.run_audit.specs.declared.due.Step.{Step}
use Rattle.run_audit.specs.declared.verdict.AuditCause.{AuditCause}
use Rattle.run_audit.specs.declared.verdict.AuditCause.TheVariants as causes
use Rattle.run_audit.specs.declared.verdict.AuditVerdict.TheVariants.{Legal, Wrong}
use Rattle.audit_law.specs.ClosedRun.{AreNames}
use Rattle.audit_law.proofs.Lines.{spaced, spaced_words}
use Rattle.audit_law.proofs.LineForms.{itself, same_bytes, sent_line, sent_printed, sent_read}
use Rattle.audit_law.proofs.Clean.{sent_clean, words_printed}

-- a line for each reporter, with how many it sent
abbrev pub sent_lines : NameTexts → ℕ → List (List Report) → List (List ℕ)
sent_lines names reporter [] = []
sent_lines names reporter (script ∷ later) = spaced (sent_line names reporter (length script)) ∷ sent_lines names (suc reporter) later

-- the lines of a table: the first one does not begin as one of a reader
abbrev pub IsTable : List (List ℕ) → Type 0
IsTable [] = Unit {0}
IsTable (line ∷ table) = is_reader line ≡ false

module _ (names : NameTexts) (scripts : List (List Report)) (total_at : ℕ → ℕ) (left : List ℕ) where
  -- nothing is at fault from here on, whatever the number of the next line is
  abbrev pub IsLegalFrom : Walk → List (List ℕ) → Type 0
  IsLegalFrom walk lines = (number : ℕ) → judge names scripts total_at left walk number lines ≡ Legal

  -- ---- one line

  pub step_on : (walk : Walk) (line : List ℕ) (lines : List (List ℕ)) (walked : Walked) → after_line names scripts walk line ≡ Ok walked → is_total total_at walked.shown ≡ true
      → IsLegalFrom walked.walk lines → IsLegalFrom walk (line ∷ lines)
  unfolding judge
  step_on walk line lines walked is right legal number =
      ap (go_on total_at number (λ next. judge names scripts total_at left next (number + 1) lines)) is
      ∙ ap (λ (b : Bool). cond b (judge names scripts total_at left walked.walk (number + 1) lines) (Wrong number causes.Total)) right
      ∙ legal (number + 1)

  -- a line that is not at fault, and where it leads
  pub record IsStepped (walk : Walk) (number : ℕ) (line : List ℕ) (lines : List (List ℕ)) : Type 0 where
    pub walked : Walked
    pub is : after_line names scripts walk line ≡ Ok walked
    pub right : is_total total_at walked.shown ≡ true
    pub legal : judge names scripts total_at left walked.walk (number + 1) lines ≡ Legal

  pub step_back : (walk : Walk) (number : ℕ) (line : List ℕ) (lines : List (List ℕ)) → judge names scripts total_at left walk number (line ∷ lines) ≡ Legal → IsStepped walk number line lines
  unfolding judge
  step_back walk number line lines legal = go (after_line names scripts walk line) refl legal where
    go : (answer : Result Walked AuditCause) → after_line names scripts walk line ≡ answer → go_on total_at number (λ next. judge names scripts total_at left next (number + 1) lines) answer ≡ Legal
        → IsStepped walk number line lines
    go (Err cause) is e = absurd cc
    go (Ok walked) is e = test (is_total total_at walked.shown) refl e where
      test : (b : Bool) → is_total total_at walked.shown ≡ b → cond b (judge names scripts total_at left walked.walk (number + 1) lines) (Wrong number causes.Total) ≡ Legal → IsStepped walk number line lines
      test false right e = absurd cc
      test true right e = record { walked = walked; is = is; right = right; legal = e }

  -- ---- the table

  over_table : left ≡ [] → IsLegalFrom (record { due = Table; table = [] }) []
  unfolding judge
  over_table none number = ap (at_end true number) none

  table_line : (line : List ℕ) (table : List (List ℕ)) → after_line names scripts (record { due = Table; table = line ∷ table }) line ≡ Ok (record { walk = record { due = Table; table = table }; shown = None })
  unfolding after_line
  table_line line table =
      ap (λ (b : Bool). cond {A = Result Walked AuditCause} b (Ok (record { walk = record { due = Table; table = table }; shown = None })) (Err causes.Table)) (itself line)

  pub table_on : (table : List (List ℕ)) → left ≡ [] → IsLegalFrom (record { due = Table; table = table }) table
  table_on [] none = over_table none
  table_on (line ∷ table) none =
      step_on (record { due = Table; table = line ∷ table }) line table (record { walk = record { due = Table; table = table }; shown = None }) (table_line line table) refl (table_on table none)

  pub table_next : (readers reads : ℕ) (table : List (List ℕ)) → left ≡ [] → IsTable table → IsLegalFrom (record { due = Next readers reads; table = table }) table
  unfolding judge after_line
  table_next readers reads [] none is number = ap (at_end true number) none
  table_next readers reads (line ∷ table) none is number =
      step_on (record { due = Next readers reads; table = line ∷ table }) line table (record { walk = record { due = Table; table = table }; shown = None })
      (ap (λ (b : Bool). cond {A = Result Walked AuditCause} (not b) (after_table (line ∷ table) line) (with_table (line ∷ table) (step_from names scripts (Next readers reads) (words_of line)))) is ∙ table_line line table)
      refl (table_on table none) number

  pub ended : (table : List (List ℕ)) (number : ℕ) → at_end (length table == 0) number left ≡ Legal → (table ≡ []) × (left ≡ [])
  ended [] number is = (refl, nothing left is) where
    nothing : (left : List ℕ) → at_end true number left ≡ Legal → left ≡ []
    nothing [] is = refl
    nothing (byte ∷ left) is = absurd cc
  ended (line ∷ table) number is =
      absurd (let wrong : at_end false number left ≡ Legal = subst (λ (b : Bool). at_end b number left ≡ Legal) (ne_eqb (suc (length table)) 0 (λ e. absurd (omega (arith, e)))) is in cc)

  tabled : (line : List ℕ) (table : List (List ℕ)) (walked : Walked) → after_table table line ≡ Ok walked
      → (later : List (List ℕ)) × (table ≡ line ∷ later) × (walked ≡ record { walk = record { due = Table; table = later }; shown = None })
  tabled line [] walked is = absurd cc
  tabled line (wanted ∷ table) walked is = go (bytes_eq line wanted) refl is where
    go : (b : Bool) → bytes_eq line wanted ≡ b
        → ◌≡◌ {A = Result Walked AuditCause} (cond {A = Result Walked AuditCause} b (Ok (record { walk = record { due = Table; table = table }; shown = None })) (Err causes.Table)) (Ok walked)
        → (later : List (List ℕ)) × (wanted ∷ table ≡ line ∷ later) × (walked ≡ record { walk = record { due = Table; table = later }; shown = None })
    go false same e = absurd cc
    go true same e = (table, ap (λ (first : List ℕ). first ∷ table) (sym (same_bytes line wanted same)), cc)

  pub table_back : (lines table : List (List ℕ)) (number : ℕ) → judge names scripts total_at left (record { due = Table; table = table }) number lines ≡ Legal → (lines ≡ table) × (left ≡ [])
  unfolding judge after_line
  table_back [] table number legal = let end = ended table number legal in (sym end.0, end.1)
  table_back (line ∷ lines) table number legal =
      let step : IsStepped (record { due = Table; table = table }) number line lines = step_back (record { due = Table; table = table }) number line lines legal in
      let here = tabled line table step.walked step.is in
      let rest = table_back lines here.0 (number + 1) (subst (λ (walked : Walked). judge names scripts total_at left walked.walk (number + 1) lines ≡ Legal) here.2 step.legal) in
      (ap (λ (later : List (List ℕ)). line ∷ later) rest.0 ∙ sym here.1, rest.1)

  -- ---- the reporters

  pub due_some : (next : ℕ) → next < length scripts → due_from scripts next ≡ Reporter next
  due_some next within = ap (λ (b : Bool). cond b (Reporter next) Reader) (lt-ltb next (length scripts) within)

  due_none : (next : ℕ) → length scripts ≤ next → due_from scripts next ≡ Reader
  due_none next past = ap (λ (b : Bool). cond b (Reporter next) Reader) (le-ltb next (length scripts) past)

  module _ (are : AreNames names) (named : length scripts ≤ length names.reporters) (few : (number : ℕ) → number < length scripts → length (slice_index_or scripts number []) < 2 ^ 64) where
    sent_on : (table : List (List ℕ)) (next : ℕ) → next < length scripts
        → after_line names scripts (record { due = Reporter next; table = table }) (spaced (sent_line names next (length (slice_index_or scripts next []))))
        ≡ Ok (record { walk = record { due = due_from scripts (next + 1); table = table }; shown = None })
    unfolding after_line step_from after_reporter
    sent_on table next within =
        ap (λ (words : List (List ℕ)). with_table table (sent_leads names scripts next words (sent_of names words))) (words_printed line (omega arith) (sent_clean names are next sent small))
        ∙ ap (λ (told : Option ℕ). with_table table (sent_leads names scripts next line told)) (sent_printed names next sent (omega (arith, within, named)) small)
        ∙ ap (λ (b : Bool). with_table table (cond {A = Result Step AuditCause} b (leads_to (due_from scripts (next + 1))) (Err causes.Sent)))
        (and_from (bytes_eq (entry_at names.reporters next) (entry_at names.reporters next)) (sent == sent) (itself (entry_at names.reporters next)) (eq-eqb sent sent refl))
      where
        sent : ℕ
        sent = length (slice_index_or scripts next [])

        line : List (List ℕ)
        line = sent_line names next sent

        small : sent < 2 ^ 64
        small = few next within

    pub all_sent : (table lines : List (List ℕ)) (front later : List (List Report)) → scripts ≡ front ++ later → IsLegalFrom (record { due = Reader; table = table }) lines
        → IsLegalFrom (record { due = due_from scripts (length front); table = table }) (sent_lines names (length front) later ++ lines)
    all_sent table lines front [] is legal =
        subst (λ (due : Due). IsLegalFrom (record { due = due; table = table }) lines) (sym (due_none (length front) (omega (arith, ap length is, length-append front [])))) legal
    all_sent table lines front (script ∷ later) is legal =
        subst (λ (due : Due). IsLegalFrom (record { due = due; table = table }) (spaced (sent_line names (length front) (length script)) ∷ sent_lines names (suc (length front)) later ++ lines)) (sym (due_some (length front) within))
        (step_on (record { due = Reporter (length front); table = table }) (spaced (sent_line names (length front) (length script))) (sent_lines names (suc (length front)) later ++ lines)
        (record { walk = record { due = due_from scripts (length front + 1); table = table }; shown = None })
        (subst (λ (list : List Report). after_line names scripts (record { due = Reporter (length front); table = table }) (spaced (sent_line names (length front) (length list))) ≡ Ok (record { walk = record { due = due_from scripts (length front + 1); table = table }; shown = None })) script_is (sent_on table (length front) within))
        refl
        (subst (λ (n : ℕ). IsLegalFrom (record { due = due_from scripts (length front + 1); table = table }) (sent_lines names n later ++ lines)) (omega (arith, length_push front script))
        (subst (λ (n : ℕ). IsLegalFrom (record { due = due_from scripts n; table = table }) (sent_lines names (length (front ++ script ∷ [])) later ++ lines)) (length_push front script)
        (all_sent table lines (front ++ script ∷ []) later (is ∙ sym (append_assoc front (script ∷ []) later)) legal))))
      where
        within : length front < length scripts
        within = omega (arith, ap length is, length-append front (script ∷ later))

        script_is : slice_index_or scripts (length front) [] ≡ script
        script_is = ap (λ (list : List (List Report)). slice_index_or list (length front) []) is ∙ get_or_at front script later [] (length front) refl

  -- the line of a reporter that is not at fault
  sent_back : (table : List (List ℕ)) (next : ℕ) (line : List ℕ) (walked : Walked) → after_line names scripts (record { due = Reporter next; table = table }) line ≡ Ok walked
      → (line ≡ spaced (sent_line names next (length (slice_index_or scripts next [])))) × (walked ≡ record { walk = record { due = due_from scripts (next + 1); table = table }; shown = None })
  unfolding after_line step_from after_reporter
  sent_back table next line walked is = go (sent_of names (words_of line)) refl is where
    go : (sent : Option ℕ) → sent_of names (words_of line) ≡ sent → with_table table (sent_leads names scripts next (words_of line) sent) ≡ Ok walked
        → (line ≡ spaced (sent_line names next (length (slice_index_or scripts next [])))) × (walked ≡ record { walk = record { due = due_from scripts (next + 1); table = table }; shown = None })
    go None read e = absurd cc
    go (Some sent) read e = test (bytes_eq (entry_at (words_of line) 1) (entry_at names.reporters next) && (sent == length (slice_index_or scripts next []))) refl e where
      test : (b : Bool) → (bytes_eq (entry_at (words_of line) 1) (entry_at names.reporters next) && (sent == length (slice_index_or scripts next []))) ≡ b
          → with_table table (cond {A = Result Step AuditCause} b (leads_to (due_from scripts (next + 1))) (Err causes.Sent)) ≡ Ok walked
          → (line ≡ spaced (sent_line names next (length (slice_index_or scripts next [])))) × (walked ≡ record { walk = record { due = due_from scripts (next + 1); table = table }; shown = None })
      test false right e = absurd cc
      test true right e =
          let parts = and_parts (bytes_eq (entry_at (words_of line) 1) (entry_at names.reporters next)) (sent == length (slice_index_or scripts next [])) right in (
            spaced_words line ∙ ap spaced (sent_read names (words_of line) next sent read parts.0)
                ∙ ap (λ (n : ℕ). spaced (sent_line names next n)) (eqb-true sent (length (slice_index_or scripts next [])) parts.1),
            cc,
          )

  -- what is behind the reporters' lines
  pub record IsSent (reporter : ℕ) (later : List (List Report)) (table lines : List (List ℕ)) : Type 0 where
    pub rest : List (List ℕ)
    pub number : ℕ
    pub lines_so : lines ≡ sent_lines names reporter later ++ rest
    pub legal : judge names scripts total_at left (record { due = Reader; table = table }) number rest ≡ Legal

  pub no_line : (due : Due) (table : List (List ℕ)) (number : ℕ) → is_over (record { due = due; table = table }) ≡ false → judge names scripts total_at left (record { due = due; table = table }) number [] ≡ Legal → ⊥
  unfolding judge
  no_line due table number is legal = let wrong : at_end false number left ≡ Legal = subst (λ (b : Bool). at_end b number left ≡ Legal) is legal in cc

  pub sent_read_back : (table : List (List ℕ)) (number : ℕ) (front later : List (List Report)) (lines : List (List ℕ)) → scripts ≡ front ++ later
      → judge names scripts total_at left (record { due = due_from scripts (length front); table = table }) number lines ≡ Legal → IsSent (length front) later table lines
  sent_read_back table number front [] lines is legal = record {
    rest = lines;
    number = number;
    lines_so = refl;
    legal = subst (λ (due : Due). judge names scripts total_at left (record { due = due; table = table }) number lines ≡ Legal) (due_none (length front) (omega (arith, ap length is, length-append front []))) legal;
  }
  sent_read_back table number front (script ∷ later) [] is legal =
      absurd (no_line (Reporter (length front)) table number refl (subst (λ (due : Due). judge names scripts total_at left (record { due = due; table = table }) number [] ≡ Legal) (due_some (length front) within) legal))
    where
      within : length front < length scripts
      within = omega (arith, ap length is, length-append front (script ∷ later))
  sent_read_back table number front (script ∷ later) (line ∷ lines) is legal =
      let read : IsSent (length (front ++ script ∷ [])) later table lines =
      sent_read_back table (number + 1) (front ++ script ∷ []) later lines (is ∙ sym (append_assoc front (script ∷ []) later))
      (subst (λ (n : ℕ). judge names scripts total_at left (record { due = due_from scripts n; table = table }) (number + 1) lines ≡ Legal) (sym (length_push front script)) legal_next) in
      record {
        rest = read.rest;
        number = read.number;
        lines_so =
            ap (λ (first : List ℕ). first ∷ lines) line_so
            ∙ ap (λ (others : List (List ℕ)). spaced (sent_line names (length front) (length script)) ∷ others) (read.lines_so ∙ ap (λ (n : ℕ). sent_lines names n later ++ read.rest) (omega (arith, length_push front script)));
        legal = read.legal;
      }
    where
      within : length front < length scripts
      within = omega (arith, ap length is, length-append front (script ∷ later))

      step : IsStepped (record { due = Reporter (length front); table = table }) number line lines
      step = step_back (record { due = Reporter (length front); table = table }) number line lines (subst (λ (due : Due). judge names scripts total_at left (record { due = due; table = table }) number (line ∷ lines) ≡ Legal) (due_some (length front) within) legal)

      here : (line ≡ spaced (sent_line names (length front) (length (slice_index_or scripts (length front) [])))) × (step.walked ≡ record { walk = record { due = due_from scripts (length front + 1); table = table }; shown = None })
      here = sent_back table (length front) line step.walked step.is

      line_so : line ≡ spaced (sent_line names (length front) (length script))
      line_so = here.0 ∙ ap (λ (list : List Report). spaced (sent_line names (length front) (length list))) (ap (λ (list : List (List Report)). slice_index_or list (length front) []) is ∙ get_or_at front script later [] (length front) refl)

      legal_next : judge names scripts total_at left (record { due = due_from scripts (length front + 1); table = table }) (number + 1) lines ≡ Legal
      legal_next = subst (λ (walked : Walked). judge names scripts total_at left walked.walk (number + 1) lines ≡ Legal) here.1 step.legal
