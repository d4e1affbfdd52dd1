-- A script that is split by reporter.
use Rattle.std.proofs.Common.{◌≡◌, ◌==◌, ℕ, zero, suc, ◌+◌, ◌<◌, ◌≤◌, Bool, true, false, cond, List, [], ◌∷◌, Vec, Global, length, get_or, slice_index_or, refl, sym, ap, ◌∙◌, arith, inl, inr, zero-add, All}
use Rattle.std.specs.List.{sum_by}
use Rattle.std.proofs.lemmas.Bool.{cases_eq, eqb-true, eq-eqb, ne_eqb}
use Rattle.std.proofs.lemmas.List.{get_or-map, length-map}
use Rattle.std.proofs.lemmas.List.Elements.{All-filter, filter_passes, All-same}
use Rattle.std.proofs.lemmas.List.FromFn.{get_or-map-range_with_len, length-map-range_with_len}
use Rattle.std.proofs.lemmas.List.Sums.{sum_by-cons}
use Rattle.bwe_specs.specs.Bounded.{sum_below}
use Rattle.bwe_specs.specs.declared.report.Report.{Report}
use Rattle.bwe_specs.specs.Reports.{reports_of}
use Rattle.bwe_specs.proofs.Bounds.{sum_below-add, sum_below-zero, sum_below-same}
use Rattle.bwe_specs.proofs.Sums.{sum_by-numbers}
use Rattle.bwe_specs.specs.Fit.{IsFit}
use Rattle.crew_log.specs.Scripts.{AreOfReporters, reports_in}
use Rattle.bwe_specs.specs.Lists.{lists_of}
use Rattle.document_scripts.specs.Scripts.{scripts_of}

-- 1 where the two numbers are the same, else 0
one_if : ℕ → ℕ → ℕ
one_if number other = cond (number == other) 1 0

-- one number is the same as at most one of those below a bound
one_if-sum : (number count : ℕ) → sum_below count (one_if number) ≤ 1
unfolding sum_below one_if
one_if-sum number zero = omega arith
one_if-sum number (suc count) =
    elim (cases_eq number count) [
      | inl same ↦
          let none : sum_below count (one_if number) ≡ 0 = sum_below-zero count (one_if number) (λ i lt. rw (ne_eqb number i (λ e. absurd (omega (arith, e, same)))) refl) in
          let here : one_if number count ≤ 1 = rw (eq-eqb number count same) (omega arith) in
          omega (arith, none, here)
      | inr other ↦
          let here : one_if number count ≡ 0 = rw (ne_eqb number count other) refl in
          omega (arith, here, one_if-sum number count)
    ]

-- a further report is one more of its own reporter
reports-more : (report : Report) (reports : List Report) (number : ℕ) → length (reports_of number (report ∷ reports)) ≡ length (reports_of number reports) + one_if report.reporter number
unfolding one_if
reports-more report reports number = go (report.reporter == number) where
  go : (b : Bool) → length (cond b (report ∷ reports_of number reports) (reports_of number reports)) ≡ length (reports_of number reports) + cond b 1 0
  go true = omega arith
  go false = omega arith

-- all scripts together are no longer than the script
reports-within : (count : ℕ) (script : List Report) → sum_below count (λ number. length (reports_of number script)) ≤ length script
reports-within count [] = omega (arith, sum_below-zero count (λ number. length (reports_of number [])) (λ i lt. refl))
reports-within count (report ∷ script) =
    omega (
      arith,
      sum_below-same count (λ number. length (reports_of number (report ∷ script))) (λ number. length (reports_of number script) + one_if report.reporter number) (λ i lt. reports-more report script i),
      sum_below-add count (λ number. length (reports_of number script)) (one_if report.reporter),
      one_if-sum report.reporter count,
      reports-within count script,
    )

lengths-are : (scripts : List (Vec Report Global)) → sum_by (λ script. length script.items) scripts ≡ sum_by length (lists_of scripts)
lengths-are [] = refl
lengths-are (script ∷ scripts) =
    omega (arith, sum_by-cons (λ (script : Vec Report Global). length script.items) script scripts, sum_by-cons (λ (list : List Report). length list) script.items (lists_of scripts), lengths-are scripts)

module _ (reporters : ℕ) (script : List Report) (scripts : List (Vec Report Global)) (split : lists_of scripts ≡ scripts_of reporters script) where
  pub split-count : length scripts ≡ reporters
  split-count = sym (length-map scripts (λ script. script.items)) ∙ ap length split ∙ length-map-range_with_len (λ number. reports_of number script) 0 reporters

  -- the script at a place has the reports of that number
  pub split-at : (number : ℕ) (other : Vec Report Global) → number < length scripts → (slice_index_or scripts number other).items ≡ reports_of number script
  split-at number other lt =
      sym (get_or-map (λ (script : Vec Report Global). script.items) scripts number other [] lt)
      ∙ ap (λ lists. get_or lists number []) split
      ∙ get_or-map-range_with_len (λ number. reports_of number script) 0 reporters number number [] (omega (arith, split-count)) (zero-add number)

  pub split-scripts : (tasks links : ℕ) → All (IsFit tasks links) script → AreOfReporters tasks links scripts
  split-scripts tasks links fit number other lt =
      let same = split-at number other lt in (
        All-same (λ report. report.reporter ≡ number) (slice_index_or scripts number other).items (reports_of number script) same
            (λ k d within. eqb-true (get_or (reports_of number script) k d).reporter number (filter_passes (λ report. report.reporter == number) script k d within)),
        All-same (IsFit tasks links) (slice_index_or scripts number other).items (reports_of number script) same (All-filter (λ report. report.reporter == number) (IsFit tasks links) script fit),
      )

  pub split-within : reports_in scripts ≤ length script
  split-within =
      let lengths : sum_by (λ script. length script.items) scripts ≡ sum_below reporters (λ number. length (reports_of number script)) =
      lengths-are scripts ∙ ap (sum_by length) split ∙ sum_by-numbers length (λ number. reports_of number script) reporters in
      omega (arith, lengths, reports-within reporters script)
