-- A history that goes on with what is left of each script, one script after another.
use Rattle.std.proofs.Common.{◌≡◌, ◌<◌, ◌+◌, ◌++◌, ◌==◌, ℕ, zero, suc, Bool, cond, List, [], ◌∷◌, length, get_or, take, drop, refl, sym, ap, ap₂, ◌∙◌, subst, arith, All, take-append-drop}
use Rattle.std.proofs.lemmas.Bool.{eq-eqb, ne_eqb}
use Rattle.std.proofs.lemmas.List.Elements.{All-append, All-drop, All-head, All-nil, All-tail, filter-append}
use Rattle.bwe_specs.specs.declared.report.Report.{Report}
use Rattle.bwe_specs.specs.Reports.{reports_of}
use Rattle.bwe_specs.specs.Fit.{IsFit}
use Rattle.doc_names.specs.NameTexts.{NameTexts}
use Rattle.audit_law.specs.ClosedRun.{AreScripts, IsInterleaving}
use Rattle.audit_law.proofs.Histories.{Begin, HasTaken}

-- ---- the reports of one reporter

keep-all : (number : ℕ) (reports : List Report) → All (λ report. report.reporter ≡ number) reports → reports_of number reports ≡ reports
keep-all number [] own = refl
keep-all number (report ∷ reports) own =
    ap (λ (b : Bool). cond b (report ∷ reports_of number reports) (reports_of number reports)) (eq-eqb report.reporter number (All-head (λ (report : Report). report.reporter ≡ number) report reports own))
    ∙ ap (λ (rest : List Report). report ∷ rest) (keep-all number reports (All-tail (λ (report : Report). report.reporter ≡ number) report reports own))

keep-none : (number other : ℕ) (reports : List Report) → (other ≡ number → ⊥) → All (λ report. report.reporter ≡ other) reports → reports_of number reports ≡ []
keep-none number other [] apart own = refl
keep-none number other (report ∷ reports) apart own =
    ap (λ (b : Bool). cond b (report ∷ reports_of number reports) (reports_of number reports))
    (ne_eqb report.reporter number (λ same. apart (sym (All-head (λ (report : Report). report.reporter ≡ other) report reports own) ∙ same)))
    ∙ keep-none number other reports apart (All-tail (λ (report : Report). report.reporter ≡ other) report reports own)

-- ---- what is left of the scripts from one number on

pub laters : List Report → ℕ → List (List Report) → List Report
laters done number [] = []
laters done number (script ∷ scripts) = drop (length (reports_of number done)) script ++ laters done (suc number) scripts

AreOwn : ℕ → List (List Report) → Type 0
AreOwn number scripts = (place : ℕ) → place < length scripts → All (λ report. report.reporter ≡ number + place) (get_or scripts place [])

own-first : (number : ℕ) (script : List Report) (scripts : List (List Report)) → AreOwn number (script ∷ scripts) → All (λ report. report.reporter ≡ number) script
unfolding AreOwn
own-first number script scripts own = let first : number + 0 ≡ number = omega arith in subst (λ (n : ℕ). All (λ report. report.reporter ≡ n) script) first (own 0 (omega arith))

own-later : (number : ℕ) (script : List Report) (scripts : List (List Report)) → AreOwn number (script ∷ scripts) → AreOwn (suc number) scripts
unfolding AreOwn
own-later number script scripts own place within =
    let next : number + suc place ≡ suc number + place = omega arith in
    subst (λ (n : ℕ). All (λ report. report.reporter ≡ n) (get_or scripts place [])) next (own (suc place) (omega (arith, within)))

module _ (done : List Report) where
  left-own : (number : ℕ) (script : List Report) → All (λ report. report.reporter ≡ number) script → All (λ report. report.reporter ≡ number) (drop (length (reports_of number done)) script)
  left-own number script own = All-drop (λ (report : Report). report.reporter ≡ number) (length (reports_of number done)) script own

  laters-below : (number first : ℕ) (scripts : List (List Report)) → number < first → AreOwn first scripts → reports_of number (laters done first scripts) ≡ []
  unfolding laters
  laters-below number first [] low own = refl
  laters-below number first (script ∷ scripts) low own =
      filter-append (λ (report : Report). report.reporter == number) (drop (length (reports_of first done)) script) (laters done (suc first) scripts)
      ∙ ap₂ (λ (front rest : List Report). front ++ rest)
      (keep-none number first (drop (length (reports_of first done)) script) (λ same. omega (arith, low, same)) (left-own first script (own-first first script scripts own)))
      (laters-below number (suc first) scripts (omega (arith, low)) (own-later first script scripts own))

  laters-at : (first place : ℕ) (scripts : List (List Report)) → place < length scripts → AreOwn first scripts
      → reports_of (first + place) (laters done first scripts) ≡ drop (length (reports_of (first + place) done)) (get_or scripts place [])
  unfolding laters
  laters-at first place [] within own = absurd (omega (arith, within))
  laters-at first zero (script ∷ scripts) within own =
      let here : first ≡ first + 0 = omega arith in
      subst (λ (n : ℕ). reports_of n (laters done first (script ∷ scripts)) ≡ drop (length (reports_of n done)) script) here
      (filter-append (λ (report : Report). report.reporter == first) (drop (length (reports_of first done)) script) (laters done (suc first) scripts)
      ∙ ap₂ (λ (front rest : List Report). front ++ rest)
      (keep-all first (drop (length (reports_of first done)) script) (left-own first script (own-first first script scripts own)))
      (laters-below first (suc first) scripts (omega arith) (own-later first script scripts own))
      ∙ Rattle.std.proofs.Common.append-nil (drop (length (reports_of first done)) script))
  laters-at first (suc place) (script ∷ scripts) within own =
      let next : suc first + place ≡ first + suc place = omega arith in
      subst (λ (n : ℕ). reports_of n (laters done first (script ∷ scripts)) ≡ drop (length (reports_of n done)) (get_or scripts place [])) next
      (filter-append (λ (report : Report). report.reporter == suc first + place) (drop (length (reports_of first done)) script) (laters done (suc first) scripts)
      ∙ ap (λ (front : List Report). front ++ reports_of (suc first + place) (laters done (suc first) scripts))
      (keep-none (suc first + place) first (drop (length (reports_of first done)) script) (λ same. omega (arith, same)) (left-own first script (own-first first script scripts own)))
      ∙ laters-at (suc first) place scripts (omega (arith, within)) (own-later first script scripts own))

  laters-all : (P : Report → Type 0) (first : ℕ) (scripts : List (List Report)) → ((place : ℕ) → place < length scripts → All P (get_or scripts place [])) → All P (laters done first scripts)
  unfolding laters
  laters-all P first [] each = All-nil P
  laters-all P first (script ∷ scripts) each =
      All-append P (drop (length (reports_of first done)) script) (laters done (suc first) scripts)
      (All-drop P (length (reports_of first done)) script (each 0 (omega arith)))
      (laters-all P (suc first) scripts (λ place within. each (suc place) (omega (arith, within))))

-- a history that has begun each script goes on to one that has them all
pub goes-on : (names : NameTexts) (tasks links : ℕ) (scripts : List (List Report)) (done : List Report) (taken : List ℕ) → AreScripts names tasks links scripts
    → HasTaken tasks links scripts done taken → Begin scripts done → IsInterleaving tasks links scripts (done ++ laters done 0 scripts)
unfolding Begin AreOwn
goes-on names tasks links scripts done taken given has begin = record {
  each = each;
  no_other = All-append (λ report. (report.reporter < length scripts) × IsFit tasks links report) done (laters done 0 scripts) has.no_other
      (laters-all done (λ report. (report.reporter < length scripts) × IsFit tasks links report) 0 scripts
      (λ number within k d lt. (subst (λ (n : ℕ). n < length scripts) (sym (given.own number within k d lt).0) within, (given.own number within k d lt).1)));
}
  where
    own : AreOwn 0 scripts
    own number within k d lt = let same : number ≡ 0 + number = omega arith in (given.own number within k d lt).0 ∙ same

    left : (number : ℕ) → number < length scripts → reports_of number (laters done 0 scripts) ≡ drop (length (reports_of number done)) (get_or scripts number [])
    left number within =
        let same : 0 + number ≡ number = omega arith in
        subst (λ (n : ℕ). reports_of n (laters done 0 scripts) ≡ drop (length (reports_of n done)) (get_or scripts number [])) same (laters-at done 0 number scripts within own)

    each : (number : ℕ) → number < length scripts → reports_of number (done ++ laters done 0 scripts) ≡ get_or scripts number []
    each number within =
        filter-append (λ (report : Report). report.reporter == number) done (laters done 0 scripts)
        ∙ ap₂ (λ (front rest : List Report). front ++ rest) (sym (begin number within)) (left number within)
        ∙ take-append-drop (length (reports_of number done)) (get_or scripts number [])
