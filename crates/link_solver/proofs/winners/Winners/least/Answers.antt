use Rattle.std.proofs.Common.{◌≡◌, ℕ, ◌<◌, ◌≤◌, List, length, arith, ap, sym, ◌∙◌, subst}
use Rattle.std.proofs.lemmas.Bool.Decides.{nat_tests}
use Rattle.std.proofs.lemmas.List.{get_or_read}
use Rattle.link_solver.specs.declared.due.Due.{Due}
use Rattle.link_solver.specs.Dues.{no_due, due_at, NoneBelow, IsLeastDue}
use Rattle.link_solver.specs.Tournament.{winner_at}
use Rattle.link_solver.proofs.Tournaments.{root-top, root-due, winner-in}
use Rattle.link_solver.proofs.winners.Winners.least.Goals as goal

pub returns-then-index-top : goal.returns-then-index-top
returns-then-index-top c =
    let dues : List Due = c.self.inside.dues.items in
    let best : List ℕ = c.self.inside.best.items in
    let is = c.self.invariant in
    let some : 0 < length dues = grind (arith, nat_tests) in
    let root : c.winner_at-link.result ≡ winner_at best 1 = c.winner_at-link.ensures ∙ ap (λ b. winner_at b 1) c.deref.ensures.value in
    let inside : c.winner_at-link.result < length dues = subst (λ w. w < length dues) (sym root) (winner-in dues best is.winners 1 (omega arith) (omega (arith, some))) in
    let due : c.index.result.now ≡ due_at dues c.winner_at-link.result = get_or_read dues c.winner_at-link.result c.index.result.now inside c.index.ensures (no_due) in
    subst (λ ds. NoneBelow ds c.args.top) c.self.view_is
    (root-top dues best c.args.top is (subst (λ w. c.args.top ≤ (due_at dues w).share) root (subst (λ (d : Due). c.args.top ≤ d.share) due c.if-index-top.true)))

pub returns : goal.returns
returns c =
    let dues : List Due = c.self.inside.dues.items in
    let best : List ℕ = c.self.inside.best.items in
    let is = c.self.invariant in
    let some : 0 < length dues = grind (arith, nat_tests) in
    let root : c.winner_at-link.result ≡ winner_at best 1 = c.winner_at-link.ensures ∙ ap (λ b. winner_at b 1) c.deref.ensures.value in
    let inside : c.winner_at-link.result < length dues = subst (λ w. w < length dues) (sym root) (winner-in dues best is.winners 1 (omega arith) (omega (arith, some))) in
    let due : c.index.result.now ≡ due_at dues c.winner_at-link.result = get_or_read dues c.winner_at-link.result c.index.result.now inside c.index.ensures (no_due) in
    subst (λ ds. IsLeastDue ds c.args.top c.winner_at-link.result) c.self.view_is
    (subst (IsLeastDue dues c.args.top) (sym root)
    (root-due dues best c.args.top is some (subst (λ w. (due_at dues w).share < c.args.top) root (subst (λ (d : Due). d.share < c.args.top) due c.if-index-top.false))))
