-- The words of a line, cut into seven places one after another; and lines of more words, which have no form.
use Rattle.std.proofs.Common.{◌≡◌, ◌+◌, ◌<◌, ◌≤◌, ◌++◌, ◌==◌, ℕ, true, false, List, [], ◌∷◌, length, set, take, map, codes, Option, Some, None, Err, refl, sym, ap, ◌∙◌, arith, append_assoc, length-append}
use Rattle.std.proofs.lemmas.Bool.{ne_eqb}
use Rattle.std.proofs.lemmas.List.{length-map, length-take-le, map-set, take_more_set}
use Rattle.std.proofs.lemmas.List.Splits.{length-slice_split}
use Rattle.bwe_specs.specs.declared.report.Report.{Report}
use Rattle.text_scan.specs.Cuts.{Cut, cut_at}
use Rattle.text_scan.specs.Words.{words_of}
use Rattle.text_scan.proofs.WordFacts.{word_cut, word_uncut}
use Rattle.doc_names.specs.NameTexts.{NameTexts}
use Rattle.run_audit.specs.Forms.{history_of, reader_of, report_of, sent_of, shown_of}
use Rattle.run_audit.specs.History.{Printed, fault, line_after, take_line, take_words, total_of}
use Rattle.run_audit.specs.Walk.{Walk, after_line, after_reader, after_reporter, after_shown, is_table_line, reader_leads, sent_leads, shown_leads, step_from, with_table}
use Rattle.run_audit.specs.declared.due.Due.{Due}
use Rattle.run_audit.specs.declared.due.Due.TheVariants.{Reporter, Reader, Line, Next, Table}
use Rattle.run_audit.specs.declared.forms.Shown.{Shown}
use Rattle.run_audit.specs.declared.verdict.AuditCause.TheVariants.{Form}

some_word : (line : List ℕ) → 0 < length (words_of line)
unfolding words_of
some_word line = omega (arith, length-slice_split (λ (byte : ℕ). byte == 32) line)

-- the words so far, and those of the rest
abbrev pub AreCut : {X : Type 0} → (X → List ℕ) → List X → ℕ → List ℕ → List ℕ → Type 0
AreCut view words count rest line = take count (map view words) ++ words_of rest ≡ words_of line

module _ {X : Type 0} (view : X → List ℕ) (words : List X) (count : ℕ) (rest line : List ℕ) where
  -- one more word in its place
  one_more : (word : X) → count < length words → take (count + 1) (map view (set words count word)) ≡ take count (map view words) ++ view word ∷ []
  one_more word within =
      ap (take (count + 1)) (map-set view words count word) ∙ take_more_set (map view words) count (view word) (omega (arith, within, length-map words view))

  pub cut_more : (word : X) (cut : Cut) → count < length words → view word ≡ cut.before → Some cut ≡ cut_at 32 rest → AreCut view words count rest line
      → AreCut view (set words count word) (count + 1) cut.behind line
  cut_more word cut within same e so_far =
      ap (λ (taken : List (List ℕ)). taken ++ words_of cut.behind) (one_more word within)
      ∙ append_assoc (take count (map view words)) (view word ∷ []) (words_of cut.behind)
      ∙ ap (λ (first : List ℕ). take count (map view words) ++ first ∷ words_of cut.behind) same
      ∙ ap (λ (more : List (List ℕ)). take count (map view words) ++ more) (sym (word_cut rest cut e))
      ∙ so_far

  pub cut_last : (word : X) → count < length words → view word ≡ rest → None ≡ cut_at 32 rest → AreCut view words count rest line
      → take (count + 1) (map view (set words count word)) ≡ words_of line
  cut_last word within same e so_far =
      one_more word within
      ∙ ap (λ (last : List ℕ). take count (map view words) ++ last ∷ []) same
      ∙ ap (λ (more : List (List ℕ)). take count (map view words) ++ more) (sym (word_uncut rest e))
      ∙ so_far

  -- all places are taken, and there is a rest
  pub cut_past : count ≡ 7 → length words ≡ 7 → AreCut view words count rest line → 7 < length (words_of line)
  cut_past all places so_far =
      omega (
        arith,
        ap length so_far,
        length-append (take count (map view words)) (words_of rest),
        length-take-le count (map view words) (omega (arith, all, places, length-map words view)),
        some_word rest,
        all,
      )

-- ---- lines of more than seven words

other_count : (words : List (List ℕ)) (count : ℕ) → count ≤ 7 → 7 < length words → (length words == count) ≡ false
other_count words count few long = ne_eqb (length words) count (λ same. absurd (omega (arith, same, few, long)))

pub no_history : (words : List (List ℕ)) → 7 < length words → history_of words ≡ None
unfolding history_of
no_history words long = rw (other_count words 2 (omega arith) long) refl

no_reader : (words : List (List ℕ)) → 7 < length words → reader_of words ≡ None
unfolding reader_of
no_reader words long = rw (other_count words 4 (omega arith) long) refl

no_shown : (kind : List ℕ) (words : List (List ℕ)) → 7 < length words → shown_of kind words ≡ None
unfolding shown_of
no_shown kind words long = rw (other_count words 7 (omega arith) long) refl

module _ (names : NameTexts) (scripts : List (List Report)) where
  no_sent : (words : List (List ℕ)) → 7 < length words → sent_of names words ≡ None
  unfolding sent_of
  no_sent words long = rw (other_count words 4 (omega arith) long) refl

  no_report : (words : List (List ℕ)) → 7 < length words → report_of names words ≡ None
  unfolding report_of
  no_report words long = rw (other_count words 5 (omega arith) long) refl

  -- among the reports
  pub long_stops : (printed : Printed) (line : List ℕ) → 7 < length (words_of line) → take_line names scripts printed line ≡ fault (line_after printed) Form
  unfolding take_line take_words
  long_stops printed line long = ap (take_words names scripts printed (words_of line)) (no_report (words_of line) long)

  nowhere : (total number : ℕ) (wanted : Option ℕ) (words : List (List ℕ)) → 7 < length words → after_reader total number wanted words ≡ Err Form
  unfolding after_reader
  nowhere total number wanted words long = ap (reader_leads total number wanted) (no_reader words long)

  no_step : (due : Due) (line : List ℕ) → is_table_line due line ≡ false → 7 < length (words_of line) → step_from names scripts due (words_of line) ≡ Err Form
  unfolding step_from after_reporter after_shown
  no_step (Reporter next) line other long = ap (sent_leads names scripts next (words_of line)) (no_sent (words_of line) long)
  no_step Reader line other long = nowhere (total_of scripts) 0 None (words_of line) long
  no_step (Line block) line other long =
      ap (λ (read : Option Shown). shown_leads (total_of scripts) block read (shown_of (codes "final") (words_of line))) (no_shown (codes "read") (words_of line) long)
      ∙ ap (λ (final : Option Shown). shown_leads (total_of scripts) block None final) (no_shown (codes "final") (words_of line) long)
  no_step (Next readers reads) line other long = nowhere (total_of scripts) readers (Some reads) (words_of line) long
  no_step Table line other long = absurd (let both : true ≡ false = other in cc)

  -- behind them, but for the table
  pub long_leads_nowhere : (walk : Walk) (line : List ℕ) → is_table_line walk.due line ≡ false → 7 < length (words_of line) → after_line names scripts walk line ≡ Err Form
  unfolding after_line
  long_leads_nowhere walk line other long = rw other (ap (with_table walk.table) (no_step walk.due line other long))
