use Rattle.std.proofs.Common.{◌≡◌, ◌≤◌, ◌∙◌, ap, sym, subst, arith, length, take}
use Rattle.std.proofs.lemmas.List.{take_all}
use mathlib.Core.List.{IsPrefix}
use Rattle.board_log.proofs.Prefixes.{prefix_trans, prefix_front}
use Rattle.board.proofs.steps.LogState.append.Goals as goal

pub returns-clause-seen : goal.returns-clause-seen
returns-clause-seen g c =
    let log = c.self.inside.log.items in
    let now = c.grow.new.log.items in
    let before = c.args.pass.now.seen in
    let count : length now ≤ c.len.result = omega (arith, c.len.ensures, c.grow.new.log.ok.0) in
    let whole : c.first-whole.result ≡ now = c.first-whole.ensures.reports ∙ ap (take c.len.result) c.grow.ensures.whole ∙ take_all c.len.result now count in
    let begins : IsPrefix before log = subst (IsPrefix before) (sym (ap (λ state. state.log) c.self.view_is)) c.in_ok-admit.ensures.begins in
    let longer : IsPrefix log now = subst (IsPrefix log) (sym c.in_ok-piece.ensures.ok) (prefix_front log c.args.reports.now) in
    subst (IsPrefix before) (sym (c.send.ensures.seen ∙ whole)) (prefix_trans _ _ _ begins longer)
