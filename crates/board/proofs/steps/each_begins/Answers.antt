use Rattle.std.proofs.Common.{List, get_or, subst, ap, arith, below_more}
use Rattle.std.proofs.lemmas.List.{get_or_read}
use mathlib.Core.List.{IsPrefix}
use Rattle.bwe_specs.specs.declared.report.Report.{Report}
use Rattle.board.specs.Reporting.{Reporting}
use Rattle.board.proofs.steps.each_begins.Goals as goal

pub loop-pass-preserved : goal.loop-pass-preserved
loop-pass-preserved g c =
    let passes = c.args.passes.now in
    let whole = c.args.whole.now in
    let count = c.loop-pass.pass-index in
    let here : IsPrefix c.pass-item.result.seen whole =
    subst (λ (seen : List Report). IsPrefix seen whole) (ap (λ (pass : Reporting). pass.seen) c.pass.view_is) c.if-not-begins.ensures.begins in
    λ number other lt. below_more (λ place. IsPrefix (get_or passes place other).seen whole) count (λ place h. c.loop-pass.invariant place other h)
    (subst (λ (pass : Reporting). IsPrefix pass.seen whole) (get_or_read passes count c.pass-item.result (omega arith) c.pass-item.is other) here) number lt
