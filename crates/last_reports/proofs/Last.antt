-- The last report of a list, one report earlier and one later.
use Rattle.std.proofs.Common.{◌≡◌, Bool, true, false, List, [], ◌∷◌, ◌++◌, Some, None, find, reverse, if◌then◌else◌, refl, ◌∙◌, ap}
use Rattle.std.specs.Option.{option_or}
use Rattle.std.proofs.lemmas.List.{reverse-append}
use Rattle.std.proofs.lemmas.List.Folds.{find-append}
use Rattle.bwe_specs.specs.declared.report.Report.{Report}
use Rattle.bwe_specs.specs.declared.report.Target.{Target}
use Rattle.last_reports.specs.Compaction.{last_report}

-- the last of two lists in a row is that of the second, or else that of the first
pub last_report-append : (test : Target → Bool) (reports others : List Report)
    → last_report test (reports ++ others) ≡ option_or (last_report test others) (last_report test reports)
unfolding last_report
last_report-append test reports others =
    ap (find (λ report. test report.target)) (reverse-append reports others)
    ∙ find-append (λ report. test report.target) (reverse others) (reverse reports)

-- of one report
pub last_report-one : (test : Target → Bool) (report : Report)
    → last_report test (report ∷ []) ≡ (if test report.target then Some report else None)
unfolding last_report
last_report-one test report = refl

-- one report earlier
pub last_report-cons : (test : Target → Bool) (report : Report) (reports : List Report)
    → last_report test (report ∷ reports) ≡ option_or (last_report test reports) (if test report.target then Some report else None)
last_report-cons test report reports =
    last_report-append test (report ∷ []) reports ∙ ap (option_or (last_report test reports)) (last_report-one test report)

-- one report later, that passes the test or does not
pub last_report-told : (test : Target → Bool) (reports : List Report) (report : Report) → test report.target ≡ true
    → last_report test (reports ++ report ∷ []) ≡ Some report
last_report-told test reports report is =
    last_report-append test reports (report ∷ [])
    ∙ ap (λ last. option_or last (last_report test reports)) (last_report-one test report ∙ ap (λ b. if b then Some report else None) is)

pub last_report-other : (test : Target → Bool) (reports : List Report) (report : Report) → test report.target ≡ false
    → last_report test (reports ++ report ∷ []) ≡ last_report test reports
last_report-other test reports report not =
    last_report-append test reports (report ∷ [])
    ∙ ap (λ last. option_or last (last_report test reports)) (last_report-one test report ∙ ap (λ b. if b then Some report else None) not)
