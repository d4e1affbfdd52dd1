-- The lines behind the history, one by one; and the totals that they show, looked at afterwards.
use Rattle.std.proofs.Common.{◌≡◌, ◌+◌, ◌==◌, ◌++◌, ℕ, cond, List, [], ◌∷◌, Result, Ok, Err, Option, Some, None, refl, ap, sym, subst, ◌≤◌, ◌∙◌, append-nil, append_assoc}
use Rattle.std.specs.Prelude.{IfSome}
use Rattle.std.specs.List.{All}
use Rattle.std.proofs.lemmas.List.Elements.{All-push}
use Rattle.bwe_specs.specs.declared.report.Report.{Report}
use Rattle.doc_names.specs.NameTexts.{NameTexts}
use Rattle.run_audit.specs.Walk.{Walk, Walked, after_line, is_over}
use Rattle.run_audit.specs.Verdict.{at_end, go_on, is_total, judge}
use Rattle.run_audit.specs.Checks.{Found, checks_of, find_on, first_wrong, pursue, with_checks}
use Rattle.run_audit.specs.declared.forms.Shown.{Shown}
use Rattle.run_audit.specs.declared.walk.Check.{Check}
use Rattle.run_audit.specs.declared.verdict.AuditCause.{AuditCause}
use Rattle.run_audit.specs.declared.verdict.AuditCause.TheVariants as causes
use Rattle.run_audit.specs.declared.verdict.AuditVerdict.{AuditVerdict}
use Rattle.run_audit.specs.declared.verdict.AuditVerdict.TheVariants.{Wrong}

-- a verdict alone
alone : (checks : List Check) (verdict : AuditVerdict) → with_checks checks (record { checks = []; verdict = verdict }) ≡ record { checks = checks; verdict = verdict }
alone checks verdict = ap (λ (all : List Check). record { checks = all; verdict = verdict }) (append-nil checks)

module _ (names : NameTexts) (scripts : List (List Report)) (left : List ℕ) (walk : Walk) (number : ℕ) (lines : List (List ℕ)) (checks : List Check) where
  pub pursuit_ends : (verdict : AuditVerdict) → lines ≡ [] → verdict ≡ at_end (is_over walk) number left
      → record { checks = checks; verdict = verdict } ≡ with_checks checks (pursue names scripts left walk number lines)
  unfolding pursue
  pursuit_ends verdict none is =
      ap (λ (v : AuditVerdict). record { checks = checks; verdict = v }) is
      ∙ sym (ap (λ (rest : List (List ℕ)). with_checks checks (pursue names scripts left walk number rest)) none ∙ alone checks (at_end (is_over walk) number left))

  pursued : (line : List ℕ) (more : List (List ℕ)) → lines ≡ line ∷ more
      → pursue names scripts left walk number lines ≡ find_on number (λ next. pursue names scripts left next (number + 1) more) (after_line names scripts walk line)
  unfolding pursue
  pursued line more is = ap (pursue names scripts left walk number) is

  pub pursuit_stops : (verdict : AuditVerdict) (line : List ℕ) (more : List (List ℕ)) (cause : AuditCause) → lines ≡ line ∷ more → after_line names scripts walk line ≡ Err cause
      → verdict ≡ Wrong number cause → record { checks = checks; verdict = verdict } ≡ with_checks checks (pursue names scripts left walk number lines)
  pursuit_stops verdict line more cause is wrong same =
      ap (λ (v : AuditVerdict). record { checks = checks; verdict = v }) same
      ∙ sym (ap (with_checks checks) (pursued line more is ∙ ap (find_on number (λ next. pursue names scripts left next (number + 1) more)) wrong) ∙ alone checks (Wrong number cause))

  goes_on : (line : List ℕ) (more : List (List ℕ)) (next : Walk) (shown : Option Shown) → lines ≡ line ∷ more
      → after_line names scripts walk line ≡ Ok (record { walk = next; shown = shown })
      → with_checks checks (pursue names scripts left walk number lines) ≡ with_checks (checks ++ checks_of number shown) (pursue names scripts left next (number + 1) more)
  goes_on line more next shown is right =
      ap (with_checks checks) (pursued line more is ∙ ap (find_on number (λ next. pursue names scripts left next (number + 1) more)) right)
      ∙ ap (λ (all : List Check). record { checks = all; verdict = (pursue names scripts left next (number + 1) more).verdict })
      (sym (append_assoc checks (checks_of number shown) (pursue names scripts left next (number + 1) more).checks))

  pub pursuit_goes_on : (line : List ℕ) (more : List (List ℕ)) (next : Walk) (shown : Option Shown) (checks' : List Check) (left' : List ℕ) (number' : ℕ) → lines ≡ line ∷ more
      → after_line names scripts walk line ≡ Ok (record { walk = next; shown = shown })
      → checks' ≡ checks ++ checks_of number shown → left' ≡ left → number' ≡ number + 1
      → with_checks checks' (pursue names scripts left' next number' more) ≡ with_checks checks (pursue names scripts left walk number lines)
  pursuit_goes_on line more next shown checks' left' number' is right noted same_left counted =
      ap (λ (all : List Check). with_checks all (pursue names scripts left' next number' more)) noted
      ∙ ap (λ (end : List ℕ). with_checks (checks ++ checks_of number shown) (pursue names scripts end next number' more)) same_left
      ∙ ap (λ (n : ℕ). with_checks (checks ++ checks_of number shown) (pursue names scripts left next n more)) counted
      ∙ sym (goes_on line more next shown is right)

-- the prefixes of the checks so far, and of what a line shows
pub prefixes_more : (checks : List Check) (number total : ℕ) (shown : Option Shown) → All (λ check. check.prefix ≤ total) checks → IfSome shown (λ shown. shown.prefix ≤ total)
    → All (λ check. check.prefix ≤ total) (checks ++ checks_of number shown)
prefixes_more checks number total None all small = subst (All (λ check. check.prefix ≤ total)) (sym (append-nil checks)) all
prefixes_more checks number total (Some shown) all small =
    All-push (λ check. check.prefix ≤ total) checks (record { line = number; prefix = shown.prefix; total = shown.total }) all small

-- ---- the verdict

module _ (total_at : ℕ → ℕ) (number : ℕ) where
  with_shown : (shown : Option Shown) (verdict : AuditVerdict) (found : Found) → verdict ≡ first_wrong total_at found.verdict found.checks
      → cond (is_total total_at shown) verdict (Wrong number causes.Total) ≡ first_wrong total_at found.verdict (checks_of number shown ++ found.checks)
  with_shown None verdict found same = same
  with_shown (Some shown) verdict found same = ap (λ (next : AuditVerdict). cond (total_at shown.prefix == shown.total) next (Wrong number causes.Total)) same

  same_on : (judge_next : Walk → AuditVerdict) (find_next : Walk → Found)
      → ((next : Walk) → judge_next next ≡ first_wrong total_at (find_next next).verdict (find_next next).checks)
      → (answer : Result Walked AuditCause)
      → go_on total_at number judge_next answer ≡ first_wrong total_at (find_on number find_next answer).verdict (find_on number find_next answer).checks
  same_on judge_next find_next same (Err cause) = refl
  same_on judge_next find_next same (Ok walked) = with_shown walked.shown (judge_next walked.walk) (find_next walked.walk) (same walked.walk)

-- the totals can be looked at afterwards
pub judged : (names : NameTexts) (scripts : List (List Report)) (total_at : ℕ → ℕ) (left : List ℕ) (walk : Walk) (number : ℕ) (lines : List (List ℕ))
    → judge names scripts total_at left walk number lines
    ≡ first_wrong total_at (pursue names scripts left walk number lines).verdict (pursue names scripts left walk number lines).checks
unfolding judge pursue
judged names scripts total_at left walk number [] = refl
judged names scripts total_at left walk number (line ∷ lines) =
    same_on total_at number (λ next. judge names scripts total_at left next (number + 1) lines) (λ next. pursue names scripts left next (number + 1) lines)
    (λ next. judged names scripts total_at left next (number + 1) lines) (after_line names scripts walk line)
