use Rattle.std.proofs.Common.{◌++◌, ◌∷◌, [], zero-add, ap, ap₂, ◌∙◌, sym}
use Rattle.std.proofs.lemmas.List.{map_push}
use Rattle.std.proofs.lemmas.List.FromFn.{map-range_with_len_more}
use Rattle.bwe_specs.specs.declared.report.Report.{Report}
use Rattle.bwe_specs.specs.Reports.{reports_of}
use Rattle.std.proofs.Common.{ℕ, List, Vec, Global}
use Rattle.bwe_specs.specs.Lists.{lists_of}
use Rattle.document_scripts.proofs.split_by_reporter.Goals as goal

pub loop-reporter-preserved : goal.loop-reporter-preserved
loop-reporter-preserved c =
    let number = c.loop-reporter.reporter in
    let of : ℕ → List Report = λ number. reports_of number c.args.script.now in
    ap lists_of c.in_ok-push.ensures.items
    ∙ map_push (λ (script : Vec Report Global). script.items) c.loop-reporter.scripts.items c.in_ok-reports.reports
    ∙ ap₂ (λ (before : List (List Report)) (next : List Report). before ++ next ∷ []) c.loop-reporter.invariant c.in_ok-reports.ensures
    ∙ sym (map-range_with_len_more of 0 number number (zero-add number))
