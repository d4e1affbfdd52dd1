use Rattle.std.proofs.Common.{◌≡◌, ◌+◌, List, Some, subst, sym}
use Rattle.bwe_specs.specs.declared.network.Closing.{Closing}
use Rattle.bwe_specs.specs.Filling.{Wan}
use Rattle.mpfa_fill.proofs.MomentLemmas.{never_falls}
use Rattle.link_solver.specs.declared.due.Due.{Due}
use Rattle.link_solver.specs.Dues.{AreDues, NoneBelow, IsLeastDue, IsLooked, IsNextClosing}
use Rattle.link_front.specs.Front.{wan_in, closings_in}
use Rattle.link_solver.proofs.Changes.{least-right, top-due}
use Rattle.link_solver.proofs.Stale.{looked-due}
use Rattle.link_solver.proofs.guessed.next_guessed.Goals as goal

pub returns-then-due-clause-next : goal.returns-then-due-clause-next
returns-then-due-clause-next g c =
    let wan : Wan = wan_in g.V.GroupValues.meaning c.args.front.now in
    let closings : List Closing = closings_in c.args.front.now in
    let m = c.requires.front in
    subst (λ (due : Due). IsNextClosing wan closings c.loop-found.dues (Some (record { link = c.in-Some.found.link; share = due.share }))) (sym c.due-due.ensures) (
      least-right wan (never_falls _ _ _ m.growth.known) closings c.requires.right c.loop-found.dues c.loop-found.invariant.dues c.in-Some.found.link (subst (λ top. IsLeastDue c.loop-found.dues top c.in-Some.found.link) c.requires.top c.in-Some.ensures) (subst (λ (due : Due). due.over ≡ due.share + 1) c.due-due.ensures c.if-due.true),
      λ link lt. c.in-Some.ensures.least_of link lt,
    )

pub returns-clause-next : goal.returns-clause-next
returns-clause-next g c =
    let wan : Wan = wan_in g.V.GroupValues.meaning c.args.front.now in
    top-due wan (never_falls _ _ _ c.requires.front.growth.known) (closings_in c.args.front.now) c.loop-found.dues c.loop-found.invariant.dues (subst (NoneBelow c.loop-found.dues) c.requires.top c.in_default.ensures)

pub loop-found-preserved : goal.loop-found-preserved
loop-found-preserved g c =
    let i = c.loop-found.invariant in
    let wan : Wan = wan_in g.V.GroupValues.meaning c.args.front.now in
    let closings : List Closing = closings_in c.args.front.now in
    let new : Due = c.searched-looked.result in
    record {
      dues = subst (AreDues wan closings) (sym c.set.ensures.dues)
          (looked-due wan closings c.loop-found.dues i.dues c.in-Some.found.link new c.in-Some.ensures.in_range
          (subst (λ (due : Due). IsLooked wan closings c.in-Some.found.link due new) c.due-due.ensures c.searched-looked.ensures));
    }
