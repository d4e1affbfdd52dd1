use Rattle.std.proofs.Common.{◌≡◌, ◌∙◌, ap, sym, subst, arith, length, List}
use Rattle.std.specs.List.{All}
use mathlib.Core.List.{IsPrefix}
use Rattle.bwe_specs.specs.declared.report.Report.{Report}
use Rattle.board_log.specs.Roll.{own_of}
use Rattle.board.specs.Reporting.{Reporting}
use Rattle.board.proofs.Totals.{all_sent}
use Rattle.board.proofs.steps.LogState.finish.Goals as goal

pub returns-in-Ok-clause-sent : goal.returns-in-Ok-clause-sent
returns-in-Ok-clause-sent g c =
    let i = c.self.invariant in
    let log = c.self.inside.log.items in
    let passes : List Reporting = c.args.passes.items in
    let IsOwn : List Report → Reporting → Type 0 = λ reports pass. pass.own ≡ own_of pass.number reports in
    let compared : All (IsOwn log) c.as_mut_slice.result.now = subst (λ (reports : List Report). All (IsOwn reports) c.as_mut_slice.result.now) (ap (λ roll. roll.log) i.rolled) c.compare_all.ensures.exact in
    let exact : All (IsOwn log) passes = subst (All (IsOwn log)) c.as_mut_slice.ensures.value compared in
    let held : c.len-length.result ≡ length log = omega (arith, c.len-length.ensures, c.self.inside.log.ok.0) in
    held ∙ all_sent passes log g.N.Profile.reporters g.N.Profile.tasks g.N.Profile.links c.requires.count i.allowed c.requires.order exact

pub returns-in-Ok-clause-seen : goal.returns-in-Ok-clause-seen
returns-in-Ok-clause-seen g c =
    let log = c.self.inside.log.items in
    let passes : List Reporting = c.args.passes.items in
    let Begin : List Report → Type 0 = λ reports. All (λ (pass : Reporting). IsPrefix pass.seen reports) passes in
    let logged : c.args.self.now.log ≡ log = sym (ap (λ state. state.log) c.self.view_is) in
    let begun : Begin c.args.self.now.log = subst (λ (all : List Reporting). All (λ (pass : Reporting). IsPrefix pass.seen c.args.self.now.log) all) c.as_slice.ensures.value c.if-not-begins_with_each.ensures.begins in
    subst Begin (logged ∙ sym c.in-Ok.ensures.ack) begun
