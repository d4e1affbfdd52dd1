-- From what the code answers to the verdict.
use Rattle.std.proofs.Common.{◌≡◌, ◌+◌, ◌==◌, ℕ, suc, cond, List, [], ◌∷◌, length, take, Result, Ok, Err, IfOk, refl, sym, ap, ◌∙◌, arith}
use Rattle.std.specs.List.{All}
use Rattle.bwe_specs.specs.declared.report.Report.{Report}
use Rattle.bwe_specs.specs.declared.memory.OutOfMemory.{OutOfMemory}
use Rattle.text_scan.specs.Lines.{left_of, lines_of}
use Rattle.doc_names.specs.NameTexts.{NameTexts}
use Rattle.run_audit.specs.History.{IsStop, history_in}
use Rattle.run_audit.specs.Walk.{due_from}
use Rattle.run_audit.specs.Verdict.{IsVerdictAt, judge, judge_rest, verdict_of}
use Rattle.run_audit.specs.Checks.{Found, first_wrong, pursue}
use Rattle.run_audit.specs.declared.due.Due.{Due}
use Rattle.run_audit.specs.declared.walk.Check.{Check}
use Rattle.run_audit.specs.declared.verdict.AuditCause.TheVariants as causes
use Rattle.run_audit.specs.declared.verdict.AuditVerdict.{AuditVerdict}
use Rattle.run_audit.specs.declared.verdict.AuditVerdict.TheVariants.{Wrong}
use Rattle.run_audit.specs.declared.verdict.Stop.{Stop}
use Rattle.run_audit.specs.declared.verdict.Stop.TheVariants as stops
use Rattle.run_audit.proofs.Pursues.{judged}

-- only the totals at the prefixes of the checks matter
first_wrong-same : (verdict : AuditVerdict) (totals others : ℕ → ℕ) (checks : List Check) → All (λ check. totals check.prefix ≡ others check.prefix) checks
    → first_wrong totals verdict checks ≡ first_wrong others verdict checks
first_wrong-same verdict totals others [] all = refl
first_wrong-same verdict totals others (check ∷ checks) all =
    ap (λ (total : ℕ). cond (total == check.total) (first_wrong totals verdict checks) (Wrong check.line causes.Total)) (all 0 check (omega arith))
    ∙ ap (λ (later : AuditVerdict). cond (others check.prefix == check.total) later (Wrong check.line causes.Total))
    (first_wrong-same verdict totals others checks (λ k d within. all (suc k) d (omega (arith, within))))

pub rest_judged : (names : NameTexts) (scripts : List (List Report)) (left : List ℕ) (due : Due) (table : List (List ℕ)) (number : ℕ) (lines : List (List ℕ)) (total_at totals : ℕ → ℕ) (found : Found) (verdict : AuditVerdict)
    → due ≡ due_from scripts 0
    → found ≡ pursue names scripts left (record { due = due; table = table }) number lines
    → All (λ check. totals check.prefix ≡ total_at check.prefix) found.checks
    → verdict ≡ first_wrong totals found.verdict found.checks
    → verdict ≡ judge names scripts total_at left (record { due = due_from scripts 0; table = table }) number lines
rest_judged names scripts left due table number lines total_at totals found verdict first is right same =
    same
    ∙ first_wrong-same found.verdict totals total_at found.checks right
    ∙ ap (λ (f : Found). first_wrong total_at f.verdict f.checks) is
    ∙ sym (judged names scripts total_at left (record { due = due; table = table }) number lines)
    ∙ ap (λ (d : Due). judge names scripts total_at left (record { due = d; table = table }) number lines) first

module _ (names : NameTexts) (scripts : List (List Report)) (total : List Report → ℕ) (table text : List ℕ) (answer : Result AuditVerdict OutOfMemory) where
  stop_is : (stop : Stop) (verdict : AuditVerdict) → IsStop (history_in names scripts (lines_of text)) stop → IsVerdictAt stop verdict → verdict ≡ verdict_of names scripts total table text
  unfolding verdict_of
  stop_is (stops.At fault) verdict stopped at = at ∙ sym (ap (judge_rest names scripts total (lines_of table) (left_of text)) stopped)
  stop_is stops.OutOfMemory verdict stopped at = absurd at

  pub stopped_verdict : (stop : Stop) → IsStop (history_in names scripts (lines_of text)) stop → IfOk answer (IsVerdictAt stop) → IfOk answer (λ verdict. verdict ≡ verdict_of names scripts total table text)
  stopped_verdict stop stopped at = if_ok answer at where
    if_ok : (a : Result AuditVerdict OutOfMemory) → IfOk a (IsVerdictAt stop) → IfOk a (λ verdict. verdict ≡ verdict_of names scripts total table text)
    if_ok (Ok verdict) at = stop_is stop verdict stopped at
    if_ok (Err error) at = tt

  rest_is : (reports : List Report) (lines : List (List ℕ)) → history_in names scripts (lines_of text) ≡ Ok (record { reports = reports; lines = lines })
      → judge names scripts (λ prefix. total (take prefix reports)) (left_of text) (record { due = due_from scripts 0; table = lines_of table }) (length reports + 1) lines
      ≡ verdict_of names scripts total table text
  unfolding verdict_of
  rest_is reports lines is = sym (ap (judge_rest names scripts total (lines_of table) (left_of text)) is)

  pub rest_verdict : (reports : List Report) (lines : List (List ℕ)) (left : List ℕ) (number : ℕ) (others : List (List ℕ))
      → history_in names scripts (lines_of text) ≡ Ok (record { reports = reports; lines = lines })
      → left ≡ left_of text → number ≡ length reports + 1 → others ≡ lines_of table
      → IfOk answer (λ verdict. verdict ≡ judge names scripts (λ prefix. total (take prefix reports)) left (record { due = due_from scripts 0; table = others }) number lines)
      → IfOk answer (λ verdict. verdict ≡ verdict_of names scripts total table text)
  rest_verdict reports lines left number others is left_so number_so table_so judged = if_ok answer judged where
    same : judge names scripts (λ prefix. total (take prefix reports)) left (record { due = due_from scripts 0; table = others }) number lines ≡ verdict_of names scripts total table text
    same =
        ap (λ (l : List ℕ). judge names scripts (λ prefix. total (take prefix reports)) l (record { due = due_from scripts 0; table = others }) number lines) left_so
        ∙ ap (λ (n : ℕ). judge names scripts (λ prefix. total (take prefix reports)) (left_of text) (record { due = due_from scripts 0; table = others }) n lines) number_so
        ∙ ap (λ (t : List (List ℕ)). judge names scripts (λ prefix. total (take prefix reports)) (left_of text) (record { due = due_from scripts 0; table = t }) (length reports + 1) lines) table_so
        ∙ rest_is reports lines is

    if_ok : (a : Result AuditVerdict OutOfMemory) → IfOk a (λ verdict. verdict ≡ judge names scripts (λ prefix. total (take prefix reports)) left (record { due = due_from scripts 0; table = others }) number lines)
        → IfOk a (λ verdict. verdict ≡ verdict_of names scripts total table text)
    if_ok (Ok verdict) at = at ∙ same
    if_ok (Err error) at = tt
