-- The totals that lines show, apart from the other causes.
use Rattle.std.specs.Prelude.{◌≡◌, ℕ, ◌<◌, ◌==◌, ◌+◌, ◌++◌, Bool, true, false, List, [], ◌∷◌, Option, Some, None, Result, Ok, Err, slice_index, slice_index_or, if◌then◌else◌}
use Rattle.bwe_specs.specs.declared.report.Report.{Report}
use Rattle.doc_names.specs.NameTexts.{NameTexts}
use Rattle.run_audit.specs.Walk.{Walk, Walked, after_line, is_over}
use Rattle.run_audit.specs.Verdict.{at_end}
use Rattle.run_audit.specs.declared.forms.Shown.{Shown}
use Rattle.run_audit.specs.declared.walk.Check.{Check}
use Rattle.run_audit.specs.declared.walk.Pursued.{Pursued}
use Rattle.run_audit.specs.declared.verdict.AuditCause.{AuditCause}
use Rattle.run_audit.specs.declared.verdict.AuditCause.TheVariants as causes
use Rattle.run_audit.specs.declared.verdict.AuditVerdict.{AuditVerdict}
use Rattle.run_audit.specs.declared.verdict.AuditVerdict.TheVariants.{Wrong}

-- the totals shown, up to the first fault of another kind, and the verdict of that
pub record Found : Type 0 where
  pub checks : List Check
  pub verdict : AuditVerdict

abbrev pub found_of : Pursued → Found
found_of pursued = record { checks = pursued.checks.items; verdict = pursued.verdict }

abbrev pub checks_of : ℕ → Option Shown → List Check
checks_of number None = []
checks_of number (Some shown) =
    record { line = number; prefix = shown.prefix; total = shown.total } ∷ []

abbrev pub with_checks : List Check → Found → Found
with_checks checks found = record { checks = checks ++ found.checks; verdict = found.verdict }

abbrev pub find_on : ℕ → (Walk → Found) → Result Walked AuditCause → Found
find_on number next (Err cause) = record { checks = []; verdict = Wrong number cause }
find_on number next (Ok walked) = with_checks (checks_of number walked.shown) (next walked.walk)

unfoldable pub pursue : NameTexts → List (List Report) → List ℕ → Walk → ℕ → List (List ℕ) → Found
pursue names scripts left walk number [] =
    record { checks = []; verdict = at_end (is_over walk) number left }
pursue names scripts left walk number (line ∷ lines) =
    find_on number (λ next. pursue names scripts left next (number + 1) lines)
    (after_line names scripts walk line)

-- the first total that is not the one of its prefix, or else the verdict
abbrev pub first_wrong : (ℕ → ℕ) → AuditVerdict → List Check → AuditVerdict
first_wrong total_at verdict [] = verdict
first_wrong total_at verdict (check ∷ checks) =
    if total_at check.prefix == check.total then first_wrong total_at verdict checks
    else Wrong check.line causes.Total

-- each of so many first numbers is the total of its prefix, where that is asked for
abbrev pub AreTotals : List Bool → ℕ → (ℕ → ℕ) → List ℕ → Type 0
AreTotals asked count total_at totals = (prefix : ℕ) → prefix < count
    → slice_index_or asked prefix false ≡ true → slice_index totals prefix ≡ total_at prefix
