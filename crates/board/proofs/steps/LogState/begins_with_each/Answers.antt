use Rattle.std.proofs.Common.{◌≡◌, ◌≤◌, ◌∙◌, ap, subst, arith, length, take, List}
use Rattle.std.proofs.lemmas.List.{take_all}
use Rattle.std.specs.List.{All}
use Rattle.std.specs.Bool.{OnTrue}
use mathlib.Core.List.{IsPrefix}
use Rattle.bwe_specs.specs.declared.report.Report.{Report}
use Rattle.board.specs.Reporting.{Reporting}
use Rattle.board.proofs.steps.LogState.begins_with_each.Goals as goal

pub returns : goal.returns
returns g c =
    let log = c.self.inside.log.items in
    let passes : List Reporting = c.args.passes.now in
    let count : length log ≤ c.len.result = omega (arith, c.len.ensures, c.self.inside.log.ok.0) in
    let whole : c.first-whole.result ≡ log = c.first-whole.ensures.reports ∙ ap (take c.len.result) c.self.invariant.whole_so ∙ take_all c.len.result log count in
    record {
      begins = subst (λ (reports : List Report). OnTrue c.each_begins.result (All (λ (pass : Reporting). IsPrefix pass.seen reports) passes)) (whole ∙ ap (λ state. state.log) c.self.view_is) c.each_begins.ensures.begins;
    }
