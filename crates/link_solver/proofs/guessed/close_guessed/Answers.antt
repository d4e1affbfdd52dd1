use Rattle.std.proofs.Common.{◌∷◌, sym, ◌∙◌, ap, subst, arith, length, Some, List}
use Rattle.bwe_specs.specs.declared.network.Closing.{Closing}
use Rattle.bwe_specs.specs.Filling.{Wan}
use Rattle.link_solver.specs.Dues.{AreDues, IsNextClosing}
use Rattle.link_front.specs.Front.{wan_in, closings_in, AreKnown}
use Rattle.mpfa_fill.proofs.MomentLemmas.{never_falls, right-all-along}
use Rattle.link_solver.proofs.Changes.{closings-few}
use Rattle.link_solver.proofs.guessed.close_guessed.Goals as goal

pub next_guessed-requires-clause-known : goal.next_guessed-requires-clause-known
next_guessed-requires-clause-known g c = subst (λ wan. AreKnown wan c.args.known.now) (sym c.loop-closing.invariant.wan) c.requires.known

pub loop-closing-smaller : goal.loop-closing-smaller
loop-closing-smaller g c =
    let i = c.loop-closing.invariant in
    let wan : Wan = wan_in g.V.GroupValues.meaning c.loop-closing.front in
    let closings : List Closing = closings_in c.loop-closing.front in
    let next : IsNextClosing wan closings c.next_guessed.new.dues (Some c.in-Some.closing) = subst (IsNextClosing wan closings c.next_guessed.new.dues) c.in-Some.is c.in_ok-closing.ensures.next in
    let few = closings-few wan (never_falls _ _ _ i.front.growth.known) closings c.in-Some.closing i.right next.0 in
    omega (arith, few, ap (λ (w : Wan). length w.capacities) i.wan, ap length c.in_ok-close.ensures.closings)

pub loop-closing-preserved : goal.loop-closing-preserved
loop-closing-preserved g c =
    let i = c.loop-closing.invariant in
    let e = c.in_ok-close.ensures in
    let closings : List Closing = closings_in c.loop-closing.front in
    let next : IsNextClosing (wan_in g.V.GroupValues.meaning c.loop-closing.front) closings c.next_guessed.new.dues (Some c.in-Some.closing) = subst (IsNextClosing (wan_in g.V.GroupValues.meaning c.loop-closing.front) closings c.next_guessed.new.dues) c.in-Some.is c.in_ok-closing.ensures.next in
    record {
      front = e.front;
      right = right-all-along _ (wan_in g.V.GroupValues.meaning c.loop-closing.front) _ (c.in-Some.closing ∷ closings) e.wan e.closings (i.right, next.0);
      wan = e.wan ∙ i.wan;
      dues = subst (λ w. AreDues w (closings_in c.close.new.front) c.close.new.dues) (sym e.wan)
          (subst (λ cs. AreDues (wan_in g.V.GroupValues.meaning c.loop-closing.front) cs c.close.new.dues) (sym e.closings) e.dues);
    }
